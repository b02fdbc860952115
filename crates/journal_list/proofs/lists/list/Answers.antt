use Rattle.std.proofs.Common.{◌≡◌, Result, Ok, Err, refl, ap, ◌∙◌}
use Rattle.journal_recover.specs.declared.fault.RecoverFault.{RecoverFault}
use Rattle.journal_recover.specs.declared.fault.RecoverFault.TheVariants.{Failed}
use Rattle.journal_list.specs.declared.listing.Listing.{Listing}
use Rattle.journal_list.specs.declared.listing.ListFault.{ListFault}
use Rattle.journal_list.proofs.lists.list.Goals as goal

abbrev why_of : Result Listing ListFault → RecoverFault
why_of (Ok listing) = Failed
why_of (Err fault) = fault.why

pub returns-in-Err-clause-cause : goal.returns-in-Err-clause-cause
returns-in-Err-clause-cause g c = record {
  later = c.list_parts.ensures.cause.later;
  failed = λ fault is failed.
      let why : c.in-Err.why ≡ Failed = ap why_of is ∙ failed in
      c.in-Err.ensures.cause.failed (ap Err why);
  kept = λ other. c.in-Err.ensures.cause.kept (λ is. let why : c.in-Err.why ≡ Failed = cc in other _ refl why);
}
