-- What a stop leaves while a journal is made new.
use Rattle.std.proofs.Common.{◌≡◌, ◌⊎◌, inl, inr, ⊎_elim, ℕ, ◌+◌, ◌-◌, ◌<◌, ◌≤◌, List, [], length, take, replicate, get_or, slice_get, Option, Some, refl, sym, ap, ◌∙◌, subst, arith}
use Rattle.std.proofs.lemmas.Bool.{cases_lt, cases_eq}
use Rattle.std.proofs.lemmas.List.{ext_get_or, get_or_past, length-replicate}
use Rattle.std.proofs.lemmas.Option.{slice_get_within, get_or_from_slice_get}
use Rattle.key_state.specs.declared.entry.Entry.{Entry}
use Rattle.key_state.specs.declared.entry.Entry.TheVariants.{Settled}
use Rattle.key_state.specs.Entries.{states}
use Rattle.key_state.proofs.Histories.{states_nil, history_nil}
use Rattle.journal_layout.specs.declared.gate.Gate.{Gate}
use Rattle.journal_layout.specs.declared.live.Live.{Live}
use Rattle.journal_layout.specs.Gate.{IsGate}
use Rattle.journal_layout.specs.Recovery.{Sectors, HasGate, Gives, Recovers, area_of, blocks_of, journal_end}
use Rattle.journal_layout.proofs.SameGate.{one_gate}
use Rattle.vd_disk.specs.Disk.{Table, DiskSeen, WhenTold, IsTale, IsAtRest, IsImage, IsImageAt, present, settled, sector_at}
use Rattle.journal_core.specs.Changes.{Changed, ReadsAs}
use Rattle.journal_core.specs.Keeps.{IsGateAt}
use Rattle.journal_core.specs.Opening.{OpeningLeaves, Opens}
use Rattle.journal_core.specs.Writes.{HasEpoch, IsNew, IsNotLive, IsSynced, IsZeroIn, ReadsZero}
use Rattle.journal_core.proofs.Kernel.{shows_front}
use Rattle.journal_core.proofs.Opened.{zero_no_gate, all_new}
use Rattle.journal_core.proofs.Settling.{settled_only}
use Rattle.journal_core.proofs.Telling.{comes_from, image_before}
use Rattle.journal_core.proofs.Zeroing.{zeroed_gives}

pub rests_synced : (disk : DiskSeen) (t : Sectors) → present disk.moments ≡ settled t → IsAtRest disk.moments t
rests_synced disk t is image left = settled_only t image (subst (λ (table : Table). IsImage table image) is left)

-- From a disk at rest on each sector of an image is as it was, or as it was written.
pub only_after : (Q : ℕ → List ℕ → Type 0) (a b : DiskSeen) (r : Sectors) → a.told ≡ Some r → IsTale a.sectors a.moments r → IsAtRest a.moments r → Changed Q a b
    → (m : ℕ) (image : Sectors) → length a.moments ≤ m + 1 → IsImageAt b.moments m image
    → (length image ≡ length r) × ((i : ℕ) → i < length r → (sector_at image i ≡ sector_at r i) ⊎ Q i (sector_at image i))
only_after Q a b r told tale rests changed m image since at =
    let begun = tale.began in
    let last = length a.moments - 1 in
    let tables = changed.tables r told in
    let from = comes_from Q a.moments b.moments a.sectors changed.earlier begun tables last m image (omega (arith, begun)) (omega (arith, since)) at in
    let there = image_before a.moments b.moments last from.0 changed.earlier (omega (arith, begun)) from.1 in
    let same : from.0 ≡ r = rests from.0 there.left in
    let size : length image ≡ length r = at.left.size ∙ tables.sizes m since at.reached ∙ sym tale.as_many in (
      size,
      λ i inside. subst (λ (x : Sectors). (sector_at image i ≡ sector_at x i) ⊎ Q i (sector_at image i)) same (from.2 i (omega (arith, inside, tale.as_many))),
    )

-- neither gate is there
abbrev pub HasNoGates : Sectors → Type 0
HasNoGates x = (a : ℕ) → a < 2 → sector_at x a ≡ replicate 512 0

pub no_gates : (x : Sectors) (first : ℕ) → first < 2 → sector_at x first ≡ replicate 512 0 → sector_at x (1 - first) ≡ replicate 512 0 → HasNoGates x
no_gates x first small here there a below = elim (cases_eq a first) [
  | inl is ↦ ap (sector_at x) is ∙ here
  | inr other ↦
      let is : a ≡ 1 - first = omega (arith, other, small, below) in
      ap (sector_at x) is ∙ there
]

-- the images while the first gate goes
module _ (live : Live) (s : Sectors) (first : ℕ) (d0 d1 : DiskSeen) (none : live.epoch ≡ 0) (small : first < 2) (not_live : IsNotLive first s) (told : d0.told ≡ Some s) (tale : IsTale d0.sectors d0.moments s)
    (rests : IsAtRest d0.moments s) (room : journal_end live ≤ d0.sectors) (one : Changed (IsZeroIn first (first + 1)) d0 d1) where
  abbrev Left : Sectors → Type 0
  Left image = OpeningLeaves live (replicate (blocks_of live) (Settled 0)) s image

  two_gates : 2 ≤ length s
  two_gates = omega (arith, tale.as_many, room)

  kept : (image : Sectors) → length image ≡ length s → sector_at image first ≡ replicate 512 0 → ((i : ℕ) → (i ≡ first → ⊥) → sector_at image i ≡ sector_at s i) → Left image
  kept image size zero others = inl (zeroed_gives s image first small not_live size zero others live.id)

  gone : (image : Sectors) → HasNoGates image → Left image
  gone image zeros = inr (inl (none, λ area gate below has. zero_no_gate area gate (subst (λ (x : List ℕ). IsGate area x gate) (zeros area below) has.is_gate)))

  -- what is the same within is the same everywhere
  beyond : (x y : Sectors) (i : ℕ) → length x ≡ length y → (i < length y → sector_at x i ≡ sector_at y i) → sector_at x i ≡ sector_at y i
  beyond x y i size within = elim (cases_lt i (length y)) [
    | inl inside ↦ within inside
    | inr past ↦ get_or_past x i [] (omega (arith, size, past)) ∙ sym (get_or_past y i [] past)
  ]

  pub first_gone : (m : ℕ) (image : Sectors) → length d0.moments ≤ m + 1 → IsImageAt d1.moments m image → Left image
  first_gone m image since at =
      let from = only_after (IsZeroIn first (first + 1)) d0 d1 s told tale rests one m image since at in
      let others : (i : ℕ) → (i ≡ first → ⊥) → sector_at image i ≡ sector_at s i = λ i other. beyond image s i from.0
      (λ inside. ⊎_elim (λ same. same) (λ put. absurd (other (omega (arith, put.0, put.1)))) (from.1 i inside)) in
      ⊎_elim
      (λ same.
      let all : image ≡ s = ext_get_or [] image s from.0 (λ i within. elim (cases_eq i first) [
        | inl is ↦ ap (sector_at image) is ∙ same ∙ ap (sector_at s) (sym is)
        | inr other ↦ others i other
      ]) in
      inl (λ outcome gives. subst (λ (x : Sectors). Gives x live.id outcome) (sym all) gives))
      (λ put. kept image from.0 put.2 others)
      (from.1 first (omega (arith, small, two_gates)))

  -- while the second one goes
  module _ (d2 : DiskSeen) (one_is : IsSynced d1 (ReadsZero first (first + 1))) (tale1 : WhenTold d1.told (IsTale d1.sectors d1.moments)) (two : Changed (IsZeroIn (1 - first) (2 - first)) d1 d2) where
    r1 : (t : Sectors) × (d1.told ≡ Some t) × ReadsAs (IsZeroIn first (first + 1)) s t
    r1 = one.told s told

    zero1 : sector_at r1.0 first ≡ replicate 512 0
    zero1 = (one_is r1.0 r1.1).1 first (omega arith) (omega arith)

    same1 : (i : ℕ) → (i ≡ first → ⊥) → sector_at r1.0 i ≡ sector_at s i
    same1 i other = beyond r1.0 s i r1.2.as_many (λ inside. ⊎_elim (λ same. same) (λ put. absurd (other (omega (arith, put.0, put.1)))) (r1.2.each i inside))

    second_now : (m : ℕ) (image : Sectors) → length d1.moments ≤ m + 1 → IsImageAt d2.moments m image → Left image
    second_now m image since at =
        let from = only_after (IsZeroIn (1 - first) (2 - first)) d1 d2 r1.0 r1.1 (tale1 r1.0 r1.1) (rests_synced d1 r1.0 (one_is r1.0 r1.1).0) two m image since at in
        let size : length image ≡ length s = from.0 ∙ r1.2.as_many in
        let sizes = r1.2.as_many in
        let zero : sector_at image first ≡ replicate 512 0 = ⊎_elim
        (λ same. same ∙ zero1)
        (λ put. put.2)
        (from.1 first (omega (arith, small, two_gates, sizes))) in
        ⊎_elim
        (λ same. kept image size zero (λ i other. beyond image s i size
        (λ inside. ⊎_elim
        (λ was. was ∙ same1 i other)
        (λ put.
        let is : i ≡ 1 - first = omega (arith, put.0, put.1, small) in
        ap (sector_at image) is ∙ same ∙ ap (sector_at r1.0) (sym is) ∙ same1 i other)
        (from.1 i (omega (arith, inside, sizes))))))
        (λ put. gone image (no_gates image first small zero put.2))
        (from.1 (1 - first) (omega (arith, two_gates, sizes)))

    pub second_gone : (m : ℕ) (image : Sectors) → length d0.moments ≤ m + 1 → IsImageAt d2.moments m image → Left image
    second_gone m image since at = elim (cases_lt m (length d1.moments)) [
      | inl before ↦ first_gone m image since (image_before d1.moments d2.moments m image two.earlier before at)
      | inr late ↦ second_now m image (omega (arith, late)) at
    ]

    -- while the rest is cleared
    module _ (d3 : DiskSeen) (end : ℕ) (two_is : IsSynced d2 (ReadsZero (1 - first) (2 - first))) (tale2 : WhenTold d2.told (IsTale d2.sectors d2.moments)) (three : Changed (IsZeroIn 2 end) d2 d3) where
      r2 : (t : Sectors) × (d2.told ≡ Some t) × ReadsAs (IsZeroIn (1 - first) (2 - first)) r1.0 t
      r2 = two.told r1.0 r1.1

      size2 : length r2.0 ≡ length s
      size2 = r2.2.as_many ∙ r1.2.as_many

      none2 : HasNoGates r2.0
      none2 = no_gates r2.0 first small
          (⊎_elim (λ same. same ∙ zero1) (λ put. put.2) (r2.2.each first (omega (arith, small, two_gates, r1.2.as_many))))
          ((two_is r2.0 r2.1).1 (1 - first) (omega arith) (omega (arith, small)))

      third_now : (m : ℕ) (image : Sectors) → length d2.moments ≤ m + 1 → IsImageAt d3.moments m image → Left image
      third_now m image since at =
          let from = only_after (IsZeroIn 2 end) d2 d3 r2.0 r2.1 (tale2 r2.0 r2.1) (rests_synced d2 r2.0 (two_is r2.0 r2.1).0) three m image since at in
          gone image (λ a below. ⊎_elim (λ same. same ∙ none2 a below) (λ put. put.2) (from.1 a (omega (arith, below, two_gates, size2))))

      pub third_gone : (m : ℕ) (image : Sectors) → length d0.moments ≤ m + 1 → IsImageAt d3.moments m image → Left image
      third_gone m image since at = elim (cases_lt m (length d2.moments)) [
        | inl before ↦ second_gone m image since (image_before d2.moments d3.moments m image three.earlier before at)
        | inr late ↦ third_now m image (omega (arith, late)) at
      ]

      -- while the new gate is written
      module _ (d4 : DiskSeen) (is_end : end ≡ journal_end live) (three_is : IsSynced d3 (ReadsZero 2 end)) (tale3 : WhenTold d3.told (IsTale d3.sectors d3.moments)) (four : Changed (IsGateAt live) d3 d4) where
        r3 : (t : Sectors) × (d3.told ≡ Some t) × ReadsAs (IsZeroIn 2 end) r2.0 t
        r3 = three.told r2.0 r2.1

        size3 : length r3.0 ≡ length s
        size3 = r3.2.as_many ∙ size2

        none3 : HasNoGates r3.0
        none3 a below = ⊎_elim (λ same. same ∙ none2 a below) (λ put. put.2) (r3.2.each a (omega (arith, below, two_gates, size2)))

        zero3 : (i : ℕ) → i < journal_end live → sector_at r3.0 i ≡ replicate 512 0
        zero3 i inside = elim (cases_lt i 2) [
          | inl gate ↦ none3 i gate
          | inr late ↦ (three_is r3.0 r3.1).1 i late (omega (arith, inside, is_end))
        ]

        new_shows : (image : Sectors) → journal_end live ≤ length image → IsNew live image → Left image
        new_shows image there new =
            let entries : List Entry = replicate (blocks_of live) (Settled 0) in
            let fit = all_new live (blocks_of live) entries image none refl new in
            let front = shows_front live entries [] image (history_nil entries) (length-replicate (blocks_of live) (Settled 0)) there fit in
            let no_more : front.0 ≡ 0 = omega (arith, front.1) in
            let gives : Gives image live.id (Recovers live [] (states entries [])) =
            subst (λ n. Gives image live.id (Recovers live (take n []) (states entries (take n [])))) no_more front.2 in
            inr (inr (subst (λ (es : List Entry). Gives image live.id (Recovers live [] es)) (states_nil entries) gives))

        last_now : (m : ℕ) (image : Sectors) → length d3.moments ≤ m + 1 → IsImageAt d4.moments m image → Left image
        last_now m image since at =
            let from = only_after (IsGateAt live) d3 d4 r3.0 r3.1 (tale3 r3.0 r3.1) (rests_synced d3 r3.0 (three_is r3.0 r3.1).0) four m image since at in
            let area : area_of live ≡ 0 = omega (arith, none) in
            let sizes : length s ≡ d0.sectors = tale.as_many in
            let rest : (i : ℕ) → 0 < i → i < journal_end live → sector_at image i ≡ replicate 512 0 = λ i some inside. ⊎_elim
            (λ same. same ∙ zero3 i inside)
            (λ put. absurd (omega (arith, put.0, area, some)))
            (from.1 i (omega (arith, inside, room, sizes, size3))) in
            ⊎_elim
            (λ same. gone image (λ a below. elim (cases_eq a 0) [
              | inl is ↦ ap (sector_at image) (is ∙ sym area) ∙ same ∙ ap (sector_at r3.0) (area ∙ sym is) ∙ none3 a below
              | inr some ↦ rest a (omega (arith, some)) (omega (arith, below))
            ]))
            (λ put. new_shows image (omega (arith, from.0, size3, sizes, room)) (put.1, rest))
            (from.1 (area_of live) (omega (arith, area, two_gates, size3)))

        pub all_made : (m : ℕ) (image : Sectors) → length d0.moments ≤ m + 1 → IsImageAt d4.moments m image → Left image
        all_made m image since at = elim (cases_lt m (length d3.moments)) [
          | inl before ↦ third_gone m image since (image_before d3.moments d4.moments m image four.earlier before at)
          | inr late ↦ last_now m image (omega (arith, late)) at
        ]

-- nothing was written yet
pub none_gone : (live : Live) (entries : List Entry) (told : Option Sectors) (moments : List Table) → Opens live entries told moments moments
none_gone live entries told moments s is rests m image since at =
    let last : m ≡ length moments - 1 = omega (arith, since, at.reached) in
    let all : image ≡ s = rests image (subst (λ k. IsImage (get_or moments k []) image) last at.left) in
    inl (λ outcome gives. subst (λ (x : Sectors). Gives x live.id outcome) (sym all) gives)

-- Nor does a call that changes the count of faults alone matter.
pub opens_from : (live : Live) (entries : List Entry) (start mid : DiskSeen) (moments : List Table) → mid ≡ record start { faults = mid.faults } → Opens live entries mid.told mid.moments moments
    → Opens live entries start.told start.moments moments
opens_from live entries start mid moments same opens s told rests m image since at =
    let is : mid.moments ≡ start.moments = ap (λ (d : DiskSeen). d.moments) same in
    let long = ap (λ (ms : List Table). length ms) is in
    opens s (ap (λ (d : DiskSeen). d.told) same ∙ told) (subst (λ (ms : List Table). IsAtRest ms s) (sym is) rests) m image (omega (arith, long, since)) at

pub told_from : (start mid : DiskSeen) (P : Sectors → Type 0) → mid ≡ record start { faults = mid.faults } → WhenTold start.told P → WhenTold mid.told P
told_from start mid P same is s told = is s (sym (ap (λ (d : DiskSeen). d.told) same) ∙ told)

-- what a read says of a gate
pub gate_there : (x : Sectors) (area : ℕ) (sector : List ℕ) (gate : Gate) → slice_get x area ≡ Some sector → IsGate area sector gate → HasGate x area gate
gate_there x area sector gate is has = record {
  there = slice_get_within x area sector is;
  is_gate = subst (λ (b : List ℕ). IsGate area b gate) (sym (get_or_from_slice_get x area sector [] is)) has;
}

pub no_gate_there : (x : Sectors) (area : ℕ) (sector : List ℕ) → slice_get x area ≡ Some sector → ((gate : Gate) → IsGate area sector gate → ⊥) → (gate : Gate) → HasGate x area gate → ⊥
no_gate_there x area sector is none gate has = none gate (subst (λ (b : List ℕ). IsGate area b gate) (get_or_from_slice_get x area sector [] is) has.is_gate)

-- By the epochs of the gates the one isn't live.
pub odd_earlier : (x : Sectors) (even odd : ℕ) → HasEpoch 0 (Some even) x → HasEpoch 1 (Some odd) x → odd < even → IsNotLive 1 x
odd_earlier x even odd first second less gate has =
    let same : gate ≡ second.0 = one_gate x 1 gate second.0 has second.1 in
    let epochs = ap (λ (g : Gate). g.epoch) same in
    (first.0, first.1, omega (arith, epochs, second.2, first.2, less))

pub even_earlier : (x : Sectors) (even odd : ℕ) → HasEpoch 0 (Some even) x → HasEpoch 1 (Some odd) x → even ≤ odd → IsNotLive 0 x
even_earlier x even odd first second less gate has =
    let same : gate ≡ first.0 = one_gate x 0 gate first.0 has first.1 in
    let epochs = ap (λ (g : Gate). g.epoch) same in
    let area = has.is_gate.its_area in
    let other = second.1.is_gate.its_area in
    (second.0, second.1, omega (arith, epochs, second.2, first.2, less, area, other))
