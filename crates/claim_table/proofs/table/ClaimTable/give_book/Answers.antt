use Rattle.std.proofs.Common.{ap, sym, subst, ◌≡◌, ◌∙◌, ◌↔◌, List, IsTrue}
use Rattle.key_state.specs.Entries.{IsPending}
use Rattle.key_state.specs.declared.seen.BookSeen.{BookSeen}
use Rattle.claim_table.specs.Sums.{Each}
use Rattle.claim_table.specs.Views.{now_at, synced_at}
use Rattle.claim_table.specs.Firsts.{first_of}
use Rattle.claim_table.specs.declared.view.Item.{Item}
use Rattle.claim_table.proofs.LockSteps.{safe_where}
use Rattle.claim_table.proofs.table.ClaimTable.give_book.Goals as goal

pub returns-clause-safe : goal.returns-clause-safe
returns-clause-safe g c =
    let f : BookSeen = g.B.Book.seen c.args.book in
    let Q : List Item → Type 0 = Each (λ i. IsTrue i.safe ↔ (IsPending (now_at f i.block) × (synced_at f i.block ≡ now_at f i.block))) in
    subst Q (sym (ap (λ v. v.held) (ap first_of c.into_badge.ensures.2 ∙ c.give_book_at.ensures.given))) (safe_where f c.into_seat-place.result.me.0.held)
