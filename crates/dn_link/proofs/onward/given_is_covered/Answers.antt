use Rattle.dn_link.proofs.{Requests.received, Following.builds, Following.covers, Following.gives_another, Following.quits, Following.runs}
use Rattle.dn_link.proofs.onward.given_is_covered.Goals as goal

-- src/onward.rt:34:1
pub returns-clause-built : goal.returns-clause-built
returns-clause-built c = λ limits me to old new input made goes step same. builds limits me to old new goes input made step same

-- src/onward.rt:34:1
pub returns-clause-ran : goal.returns-clause-ran
returns-clause-ran c = λ limits me to old new marks ran row goes step same. runs limits me to old new goes marks ran row step same

-- src/onward.rt:34:1
pub returns-clause-quit : goal.returns-clause-quit
returns-clause-quit c = λ limits me to old new quit goes step same. quits limits me to old new goes quit step same

-- src/onward.rt:34:1
pub returns-clause-received : goal.returns-clause-received
returns-clause-received c = λ limits me to seal bytes old new answer goes fit receives asks.
    received (record { bytes = c.every_datagram_is_read.ensures; packet = c.every_packet_is_told.ensures }) limits me to
    old new goes seal bytes answer fit receives asks

-- src/onward.rt:34:1
pub returns-clause-gave_another : goal.returns-clause-gave_another
returns-clause-gave_another c = λ limits me to other seal pace old new bytes apart goes gives. gives_another limits me to old new goes other seal pace bytes apart gives

-- src/onward.rt:34:1
pub returns-clause-gave : goal.returns-clause-gave
returns-clause-gave c = λ limits me to seal pace old new bytes goes time gives. (covers limits me to old new goes seal pace bytes time gives).0

-- src/onward.rt:34:1
pub returns-clause-covered : goal.returns-clause-covered
returns-clause-covered c = λ limits me to seal pace old new bytes goes time gives packet took. (covers limits me to old new goes seal pace bytes time gives).1 packet took
