use Rattle.std.proofs.Common.{ℕ, ◌≡◌, ◌+◌, ◌∷◌, ◌++◌, [], List, length, ap, sym, subst, ◌∙◌, arith}
use Rattle.std.proofs.lemmas.List.{length_push}
use Rattle.key_state.specs.declared.entry.Entry.{Entry}
use Rattle.key_state.specs.declared.seen.BookSeen.{BookSeen}
use Rattle.claim_table.specs.Views.{now_at}
use Rattle.block_ops.specs.Runs.{AreNow}
use Rattle.block_ops.proofs.RunParts.{now_more, one_now}
use Rattle.block_ops.proofs.records.as_in.Goals as goal

pub loop-k-preserved : goal.loop-k-preserved
loop-k-preserved g c =
    let i = c.loop-k.invariant in
    let book : BookSeen = g.B.Book.seen c.args.book.now in
    let first : ℕ = c.args.run.first.0 in
    let before : List Entry = c.loop-k.entries.items in
    let entry : Entry = c.entry.result in
    let after : List Entry = c.push_reserved.new.self.items in
    let items : after ≡ before ++ entry ∷ [] = c.push_reserved.ensures.items in
    let here : now_at book (first + length before) ≡ entry = ap (now_at book) (omega arith) ∙ sym {A = Entry} {a = entry} c.entry.ensures in
    record {
      many = omega (arith, ap (λ (xs : List Entry). length xs) items, length_push before entry);
      len = omega arith;
      room = c.push_reserved.ensures.capacity ∙ i.room;
      now = subst (AreNow book first) (sym {A = List Entry} {a = after} items) (now_more book first before entry i.now here);
    }

pub returns-clause-exact : goal.returns-clause-exact
returns-clause-exact g c = λ entries many are.
    one_now (g.B.Book.seen c.args.book.now) c.args.run.first.0 c.loop-k.entries.items entries (omega (arith, many)) c.loop-k.invariant.now are
