use Rattle.std.proofs.Common.{rules, arith, ap, subst, sym, ◌∙◌, ◌≡◌, ◌++◌, ◌^◌, [], ◌∷◌, All, Some, length, length-append}
use Rattle.std.proofs.lemmas.List.Elements.{All-pop, All-push}
use Rattle.vd_arm.specs.FileArm.{file_pass_seen}
use Rattle.vd_arm.specs.declared.file.FilePass.{FilePass}
use Rattle.key_state.specs.Quiet.{quiet_seen}
use Rattle.key_state.specs.declared.quiet.QuietBook.{QuietBook}
use Rattle.claim_table.specs.Seats.{view_of, IsIdle, IsNew}
use Rattle.claim_table.specs.declared.table.ClaimSeat.{ClaimSeat}
use Rattle.claim_table.specs.declared.table.ClaimTable.{ClaimTable}
use Rattle.claim_table.specs.declared.view.View.{View}
use Rattle.claim_table.proofs.tests.runs_of_two_seats.Goals as goal

pub closed-passes-requires-clause-each : goal.closed-passes-requires-clause-each
closed-passes-requires-clause-each g c =
    let table : ClaimTable FilePass QuietBook = c.table_of-table.result.0 in
    let Made-new : ClaimSeat → Type 0 = IsNew file_pass_seen quiet_seen table in
    let Back : ClaimSeat → Type 0 = λ seat. IsIdle table seat × ((view_of seat).parts ≡ 2 ^ 32) in
    let second : ClaimSeat = c.expect-second.result in
    let first : ClaimSeat = c.expect-first.result in
    let last : c.table_of-table.result.1.items ≡ c.pop.new.self.items ++ second ∷ [] = search rules in
    let then : c.pop.new.self.items ≡ c.pop-2.new.self.items ++ first ∷ [] = search rules in
    let two = All-pop Made-new c.table_of-table.result.1.items c.pop.new.self.items (Some second) last c.table_of-table.ensures.seats in
    let one = All-pop Made-new c.pop.new.self.items c.pop-2.new.self.items (Some first) then two.0 in
    let push-one : c.push.new.self.items ≡ c.pop-2.new.self.items ++ c.runs_in_turn.new.first ∷ [] = search rules in
    let push-two : c.push-2.new.self.items ≡ c.push.new.self.items ++ c.runs_in_turn.new.second ∷ [] = search rules in
    let none-left : All Back c.pop-2.new.self.items = λ k d low. absurd (omega (arith, c.table_of-table.ensures.many, ap length last, ap length then, length-append c.pop.new.self.items (second ∷ []), length-append c.pop-2.new.self.items (first ∷ []))) in
    let back-one : Back c.runs_in_turn.new.first = (c.runs_in_turn.ensures.first.0, c.runs_in_turn.ensures.first.1 ∙ ap (λ (u : View). u.parts) one.1.1) in
    let back-two : Back c.runs_in_turn.new.second = (c.runs_in_turn.ensures.second.0, c.runs_in_turn.ensures.second.1 ∙ ap (λ (u : View). u.parts) two.1.1) in
    subst (All Back) (sym push-two) (All-push Back c.push.new.self.items c.runs_in_turn.new.second (subst (All Back) (sym push-one) (All-push Back c.pop-2.new.self.items c.runs_in_turn.new.first none-left back-one)) back-two)
