use Rattle.dn_survivor.proofs.ReportBytes.{longest, report_length}
use Rattle.dn_survivor.proofs.report.report_lengths.Goals as goal

pub returns-clause-most : goal.returns-clause-most
returns-clause-most c = longest

pub returns-clause-by_window : goal.returns-clause-by_window
returns-clause-by_window c = report_length
