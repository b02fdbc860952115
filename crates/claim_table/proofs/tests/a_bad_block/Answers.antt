use Rattle.std.proofs.Common.{rules, arith, ap, subst, sym, ◌∙◌, ◌≡◌, ◌++◌, ◌^◌, [], ◌∷◌, All, Some, length, length-append}
use Rattle.std.proofs.lemmas.List.Elements.{All-pop, All-push}
use Rattle.vd_arm.specs.FileArm.{file_pass_seen}
use Rattle.vd_arm.specs.declared.file.FilePass.{FilePass}
use Rattle.key_state.specs.Quiet.{quiet_seen}
use Rattle.key_state.specs.declared.quiet.QuietBook.{QuietBook}
use Rattle.claim_table.specs.Seats.{view_of, IsIdle, IsNew}
use Rattle.claim_table.specs.declared.table.ClaimSeat.{ClaimSeat}
use Rattle.claim_table.specs.declared.table.ClaimTable.{ClaimTable}
use Rattle.claim_table.specs.declared.view.View.{View}
use Rattle.claim_table.proofs.tests.a_bad_block.Goals as goal

pub closed-passes-requires-clause-each : goal.closed-passes-requires-clause-each
closed-passes-requires-clause-each g c =
    let table : ClaimTable FilePass QuietBook = c.table_of-table.result.0 in
    let Made-new : ClaimSeat → Type 0 = IsNew file_pass_seen quiet_seen table in
    let Back : ClaimSeat → Type 0 = λ seat. IsIdle table seat × ((view_of seat).parts ≡ 2 ^ 32) in
    let seat : ClaimSeat = c.expect-seat.result in
    let last : c.table_of-table.result.1.items ≡ c.pop.new.self.items ++ seat ∷ [] = search rules in
    let one = All-pop Made-new c.table_of-table.result.1.items c.pop.new.self.items (Some seat) last c.table_of-table.ensures.seats in
    let pushed : c.push.new.self.items ≡ c.pop.new.self.items ++ c.split_and_join.new.seat ∷ [] = search rules in
    let none-left : All Back c.pop.new.self.items = λ k d low. absurd (omega (arith, c.table_of-table.ensures.many, ap length last, length-append c.pop.new.self.items (seat ∷ []))) in
    let back : Back c.split_and_join.new.seat = (c.split_and_join.ensures.of, c.split_and_join.ensures.parts ∙ (c.meet_bad_block.ensures.parts ∙ ap (λ (u : View). u.parts) one.1.1)) in
    subst (All Back) (sym pushed) (All-push Back c.pop.new.self.items c.split_and_join.new.seat none-left back)
