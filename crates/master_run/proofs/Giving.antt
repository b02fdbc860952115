-- What a table is closed with, once all its seats are back.
use Rattle.std.proofs.Common.{◌≡◌, ◌∙◌, refl, sym, ap, subst, arith, ℕ, ◌+◌, ◌*◌, ◌^◌, All, List, [], ◌∷◌, ◌++◌, length, length-append, map}
use Rattle.std.specs.List.{AllByRecursion}
use Rattle.std.proofs.lemmas.List.{length-map}
use Rattle.std.proofs.lemmas.List.Elements.{All-append, All-map, All-weaker, recursion_from_All}
use Rattle.vd_arm.specs.Arm.{PassSeen}
use Rattle.key_state.specs.declared.seen.BookSeen.{BookSeen}
use Rattle.claim_table.specs.Closings.{BookKept, NewDidNothing, PassesKept, Returned}
use Rattle.claim_table.specs.Seats.{IsIdle, IsNew, made_in, view_of}
use Rattle.claim_table.specs.Sums.{total}
use Rattle.claim_table.specs.Views.{parts, parts_in}
use Rattle.claim_table.specs.declared.table.ClaimSeat.{ClaimSeat}
use Rattle.claim_table.specs.declared.view.Made.{Made}
use Rattle.claim_table.specs.declared.view.View.{View}
use Rattle.slave_worker.specs.declared.hand.StoreHand.{StoreHand}
use Rattle.slave_worker.specs.Hands.{hand_seen}
use Rattle.master_run.specs.Posts.{CanClose, CanDismiss, Closed, IsUndone, Rests}
use Rattle.master_run.specs.declared.crew.Crew.{Crew}
use Rattle.master_run.specs.declared.post.Post.{Post}

abbrev HasParts : ClaimSeat → Type 0
HasParts seat = parts (view_of seat) ≡ 2 ^ 32

total_parts : (seats : List ClaimSeat) → AllByRecursion HasParts seats → total parts (map view_of seats) ≡ length seats * 2 ^ 32
total_parts [] all = refl
total_parts (seat ∷ seats) all =
    let here : parts (view_of seat) ≡ 2 ^ 32 = all.0 in
    let rest : total parts (map view_of seats) ≡ length seats * 2 ^ 32 = total_parts seats all.1 in
    omega (arith, here, rest)

-- All parts are there where there are as many seats as the table was made with.
whole : (made : Made) (seats : List ClaimSeat) → All HasParts seats → made.seats ≡ length seats → total parts (map view_of seats) ≡ parts_in made
whole made seats all many = total_parts seats (recursion_from_All HasParts seats all) ∙ ap (λ (n : ℕ). n * 2 ^ 32) (sym many)

hand_same : {P B : Type 0} (pass_seen : P → PassSeen) (book_seen : B → BookSeen) (a b : StoreHand P B) → a.store ≡ b.store → map pass_seen a.passes.items ≡ map pass_seen b.passes.items → book_seen a.book ≡ book_seen b.book → hand_seen pass_seen book_seen a ≡ hand_seen pass_seen book_seen b
hand_same pass_seen book_seen a b store passes book =
    ap (λ (n : ℕ). (n, map pass_seen a.passes.items, book_seen a.book)) store
    ∙ ap (λ (l : List PassSeen). (b.store, l, book_seen a.book)) passes
    ∙ ap (λ (k : BookSeen). (b.store, map pass_seen b.passes.items, k)) book

module _ {P B A C : Type 0} (pass_seen : P → PassSeen) (book_seen : B → BookSeen) where
  new_all : (crew : Crew P B A C) (seats : List ClaimSeat) → CanDismiss pass_seen book_seen crew → seats ≡ crew.spare.items ++ map (λ (post : Post P A C). post.seat) crew.posts.items → All (IsNew pass_seen book_seen crew.table) seats
  new_all crew seats can is =
      subst (λ (l : List ClaimSeat). All (IsNew pass_seen book_seen crew.table) l) (sym is)
      (All-append (IsNew pass_seen book_seen crew.table) crew.spare.items (map (λ (post : Post P A C). post.seat) crew.posts.items) can.spare
      (All-map (IsNew pass_seen book_seen crew.table) (λ (post : Post P A C). post.seat) crew.posts.items can.posts))

  -- The seats that a crew's undoing closes its table with.
  pub new_idle : (crew : Crew P B A C) (seats : List ClaimSeat) → CanDismiss pass_seen book_seen crew → seats ≡ crew.spare.items ++ map (λ (post : Post P A C). post.seat) crew.posts.items → All (IsIdle crew.table) seats
  new_idle crew seats can is =
      All-weaker (IsNew pass_seen book_seen crew.table) (IsIdle crew.table) (λ seat new. (new.0, ap (λ (v : View). v.held) new.1, ap (λ (v : View). v.loan) new.1)) seats (new_all crew seats can is)

  pub new_whole : (crew : Crew P B A C) (seats : List ClaimSeat) → CanDismiss pass_seen book_seen crew → seats ≡ crew.spare.items ++ map (λ (post : Post P A C). post.seat) crew.posts.items → total parts (map view_of seats) ≡ parts_in (made_in pass_seen book_seen crew.table)
  new_whole crew seats can is =
      whole (made_in pass_seen book_seen crew.table) seats (All-weaker (IsNew pass_seen book_seen crew.table) HasParts (λ seat new. ap (λ (v : View). v.parts) new.1) seats (new_all crew seats can is))
      (can.all ∙ sym (ap length is ∙ length-append crew.spare.items (map (λ (post : Post P A C). post.seat) crew.posts.items) ∙ ap (λ (n : ℕ). length crew.spare.items + n) (length-map crew.posts.items (λ (post : Post P A C). post.seat))))

  -- What comes back is as it was handed in.
  pub undone : (crew : Crew P B A C) (back : StoreHand P B) (seats : List ClaimSeat) → PassesKept pass_seen book_seen → BookKept → NewDidNothing pass_seen book_seen → CanDismiss pass_seen book_seen crew → seats ≡ crew.spare.items ++ map (λ (post : Post P A C). post.seat) crew.posts.items → back.store ≡ crew.place → Returned (made_in pass_seen book_seen crew.table) (map view_of seats) (map pass_seen back.passes.items) (book_seen back.book) → IsUndone pass_seen book_seen crew back
  undone crew back seats passes_law book_law new_law can is place returned store hand over =
      let none = new_law crew.table seats (new_all crew seats can is) in
      let passes = passes_law store.id over.seats hand.passes.items back.passes.items hand.book (made_in pass_seen book_seen crew.table) (map view_of seats) (book_seen back.book) over.made over.are_passes none.0 returned in
      let book = book_law (made_in pass_seen book_seen crew.table) (map view_of seats) (map pass_seen back.passes.items) (book_seen back.book) none.1 returned in
      hand_same pass_seen book_seen back hand (place ∙ over.place) passes (book ∙ ap (λ (m : Made). m.book) over.made)

  rests_all : (crew : Crew P B A C) (seats : List ClaimSeat) → CanClose pass_seen book_seen crew → seats ≡ crew.spare.items ++ map (λ (post : Post P A C). post.seat) crew.posts.items → All (Rests crew.table) seats
  rests_all crew seats can is =
      subst (λ (l : List ClaimSeat). All (Rests crew.table) l) (sym (is ∙ ap (λ (l : List ClaimSeat). l ++ map (λ (post : Post P A C). post.seat) crew.posts.items) can.none))
      (All-map (Rests crew.table) (λ (post : Post P A C). post.seat) crew.posts.items can.rests)

  -- The seats that its table is closed with after the work.
  pub rest_idle : (crew : Crew P B A C) (seats : List ClaimSeat) → CanClose pass_seen book_seen crew → seats ≡ crew.spare.items ++ map (λ (post : Post P A C). post.seat) crew.posts.items → All (IsIdle crew.table) seats
  rest_idle crew seats can is = All-weaker (Rests crew.table) (IsIdle crew.table) (λ seat rests. rests.idle) seats (rests_all crew seats can is)

  pub rest_whole : (crew : Crew P B A C) (seats : List ClaimSeat) → CanClose pass_seen book_seen crew → seats ≡ crew.spare.items ++ map (λ (post : Post P A C). post.seat) crew.posts.items → total parts (map view_of seats) ≡ parts_in (made_in pass_seen book_seen crew.table)
  rest_whole crew seats can is =
      whole (made_in pass_seen book_seen crew.table) seats (All-weaker (Rests crew.table) HasParts (λ seat rests. rests.parts) seats (rests_all crew seats can is))
      (can.all ∙ sym (ap length (is ∙ ap (λ (l : List ClaimSeat). l ++ map (λ (post : Post P A C). post.seat) crew.posts.items) can.none) ∙ length-map crew.posts.items (λ (post : Post P A C). post.seat)))

  views_of : (posts : List (Post P A C)) → map view_of (map (λ (post : Post P A C). post.seat) posts) ≡ map (λ (post : Post P A C). view_of post.seat) posts
  views_of [] = refl
  views_of (post ∷ posts) = ap (λ (l : List View). view_of post.seat ∷ l) (views_of posts)

  pub closed : (crew : Crew P B A C) (back : StoreHand P B) (seats : List ClaimSeat) → CanClose pass_seen book_seen crew → seats ≡ crew.spare.items ++ map (λ (post : Post P A C). post.seat) crew.posts.items → back.store ≡ crew.place → Returned (made_in pass_seen book_seen crew.table) (map view_of seats) (map pass_seen back.passes.items) (book_seen back.book) → Closed pass_seen book_seen crew back
  closed crew back seats can is place returned = record {
    place = place;
    returned =
        let views = ap (map view_of) (is ∙ ap (λ (l : List ClaimSeat). l ++ map (λ (post : Post P A C). post.seat) crew.posts.items) can.none) ∙ views_of crew.posts.items in
        subst (λ (l : List View). Returned (made_in pass_seen book_seen crew.table) l (map pass_seen back.passes.items) (book_seen back.book)) views returned;
  }
