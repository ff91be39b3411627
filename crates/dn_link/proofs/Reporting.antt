-- What a report changes in a link, where one comes with a datagram; and what it has as its bytes.
use Rattle.std.proofs.{Common.{◌≡◌, ◌⊎◌, ℕ, Bool, true, false, List, [], refl, ap, sym, ◌∙◌, subst, Option, Some, None, inl, inr, length}}
use Rattle.std.specs.Prelude.{IfSome, Result, Ok, Err, if◌then◌else◌, nat_lt, ◌==◌}
use Rattle.dn_machine.specs.declared.{answers.{Cause.TheVariants.{Quit, Full, Inconsistent}, Phase.{Phase, TheVariants.{Listening, Gathering, Playing, Ended}}}}
use Rattle.dn_lockstep.specs.{Contents.Contents}
use Rattle.dn_survivor.specs.{OneGame.{Given, reports_on}}
use Rattle.dn_survivor.specs.{ReportBytes.{IsReadAs, IsReport, report_bytes}, declared.{others.Others.Others, report.{Report.Report, ReportFault.ReportFault}}}
use Rattle.dn_survivor.proofs.ReportBytes.{one_reading}
use Rattle.dn_link.specs.{Linked.{IsWhole, Linked, TakesIn, TakesRead, fitting, met, surviving_of, takes, with_reached, written}, Ends.told_cause, declared.bundle.Bundle.Bundle, Hearing.HearsAll}
use Rattle.dn_link.specs.{Packets.heard_in, RemainingLinks.WasTold}
use Rattle.dn_link.proofs.{RemainingCalls.hears_same, Relinking.{last_at, still_whole}}

-- Where nobody is given up.

-- a report leaves the lockstep, the peers and who is given up as they were
quiet_read : (from : ℕ) (read : Result Report ReportFault) (mid new : Linked) → IsWhole mid → TakesRead from read mid new
    → (new.node ≡ mid.node) × (new.others.gone ≡ mid.others.gone) × (new.peers ≡ mid.peers)
quiet_read from (Err fault) mid new whole same = (
  ap (λ (l : Linked). l.node) same,
  ap (λ (l : Linked). l.others.gone) same,
  ap (λ (l : Linked). l.peers) same,
)
quiet_read from (Ok report) mid new whole (reported, hears, waits, quiet, peers) = (
  quiet whole,
  (hears_same from report (surviving_of mid) (surviving_of new) reported hears).1,
  peers,
)

-- so a datagram is taken in as its packets are
pub record AreTakenIn (bundle : Bundle) (old new : Linked) : Type 0 where
  pub heard : HearsAll (heard_in (takes old) bundle) old.node new.node
  pub gone : new.others.gone ≡ old.others.gone
  pub peers : new.peers ≡ with_reached new.node (met bundle old).peers

pub taken_whole : (bundle : Bundle) (old new : Linked) → IsWhole old → TakesIn bundle old new
    → AreTakenIn bundle old new
taken_whole bundle old new whole (mid, packets, read, is, comes) =
    let gone : mid.others.gone ≡ old.others.gone = ap (λ (o : Others). o.gone) packets.others in
    let quiet = quiet_read bundle.from read mid new (still_whole old mid gone whole) comes in
    record {
      heard = subst (λ (n : Contents). HearsAll (heard_in (takes old) bundle) old.node n)
          (sym quiet.0) packets.heard;
      gone = quiet.1 ∙ gone;
      peers = quiet.2 ∙ packets.peers
          ∙ ap (λ (n : Contents). with_reached n (met bundle old).peers) (sym quiet.0);
    }

-- what is given to a peer does not tell that it is given up
pub told_plain : (phase : Phase) → (told_cause phase == 4) ≡ false
told_plain Listening = refl
told_plain Gathering = refl
told_plain Playing = refl
told_plain (Ended Quit) = refl
told_plain (Ended Full) = refl
told_plain (Ended (Inconsistent player was should)) = refl

-- The bytes of a report are read as it, and none as any.
pub written_is : (told : Option Report) (bytes : List ℕ) (report : Report) → IfSome told IsReport
    → bytes ≡ written told → IsReadAs bytes (Ok report) → told ≡ Some report
written_is None bytes report proper is (fits, spelled) = absurd (no_bytes (sym is ∙ spelled))
  where
    no_bytes : [] ≡ report_bytes report → ⊥
    no_bytes e = cc
written_is (Some told) bytes report proper is reads =
    go (one_reading bytes (Ok told) (Ok report) (proper, is) reads)
  where
    go : ◌≡◌ {A = Result Report ReportFault} (Ok told) (Ok report) → Some told ≡ Some report
    go e = cc

-- there is room for it or not
pub fits_or_not : (room : ℕ) (report : Option Report) → (fitting room report ≡ None) ⊎ (fitting room report ≡ report)
fits_or_not room None = inl refl
fits_or_not room (Some report) = go (nat_lt room (length (report_bytes report)))
  where
    go : (test : Bool) → ((if test then None else Some report) ≡ None)
        ⊎ ((if test then None else Some report) ≡ Some report)
    go true = inl refl
    go false = inr refl

-- Reports that were given.

-- the one that was given last was given
pub told_last : (reports : List Given) (from to : ℕ) (told : Option Report) (report : Report) → told ≡ Some report
    → WasTold (reports_on reports from to told) from to report
told_last reports from to told report is =
    subst (λ (o : Option Report). WasTold (reports_on reports from to o) from to report) (sym is)
    (length reports, last_at reports (record { from = from; to = to; report = report }))
