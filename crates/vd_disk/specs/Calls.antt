-- Which calls of a disk in memory fail.
use Rattle.std.specs.Prelude.{◌≡◌, ℕ, ◌+◌, ◌-◌, ◌^◌, ◌==◌, min, Bool, true, false, ◌&&◌, ◌||◌, List, [], ◌∷◌, Option, Some, None, is_none, refl}
use Rattle.std.specs.List.{list_any}
use Rattle.vd_outside.specs.Streams.{is_empty}
use Rattle.vd_disk.specs.declared.calls.CallCounts.{CallCounts}

-- the numbers of the calls that fail, how many calls were made, and how many more the fuse lets go on
pub record Calls : Type 0 where
  pub failing : List ℕ
  pub made : ℕ
  pub fuse : Option ℕ

abbrev pub is_burnt : Option ℕ → Bool
is_burnt None = false
is_burnt (Some left) = left == 0

-- The next call fails where the fuse is burnt down or its number is listed.
abbrev pub fails_now : Calls → Bool
fails_now calls = is_burnt calls.fuse || list_any (λ number. number == calls.made) calls.failing

abbrev pub burnt_on : Option ℕ → Option ℕ
burnt_on None = None
burnt_on (Some left) = Some (left - 1)

-- one call was made
abbrev pub one_more : Calls → Calls
one_more calls = record { failing = calls.failing; made = min (calls.made + 1) (2 ^ 64 - 1); fuse = burnt_on calls.fuse }

abbrev pub no_calls : CallCounts
no_calls = record { reads = 0; writes = 0; syncs = 0 }

abbrev pub held_more : ℕ → ℕ
held_more count = min (count + 1) (2 ^ 64 - 1)

-- one read, write or sync more
abbrev pub read_more : CallCounts → CallCounts
read_more counts = record counts { reads = held_more counts.reads }

abbrev pub write_more : CallCounts → CallCounts
write_more counts = record counts { writes = held_more counts.writes }

abbrev pub sync_more : CallCounts → CallCounts
sync_more counts = record counts { syncs = held_more counts.syncs }

-- No call is to fail.
abbrev pub is_sure : Calls → Bool
is_sure calls = is_empty calls.failing && is_none calls.fuse

sure_parts : (failing : List ℕ) (made : ℕ) (fuse : Option ℕ) → (is_empty failing && is_none fuse) ≡ true →
    (is_burnt fuse || list_any (λ number. number == made) failing) ≡ false
sure_parts [] made None e = refl
sure_parts [] made (Some left) e = cc
sure_parts (n ∷ ns) made fuse e = cc

pub sure_goes_on : (calls : Calls) → is_sure calls ≡ true → fails_now calls ≡ false
sure_goes_on calls e = sure_parts calls.failing calls.made calls.fuse e

stays : (failing : List ℕ) (fuse : Option ℕ) → (is_empty failing && is_none (burnt_on fuse)) ≡ (is_empty failing && is_none fuse)
stays failing None = refl
stays failing (Some left) = refl

-- A call doesn't change whether one is to fail.
pub sure_stays : (calls : Calls) → is_sure (one_more calls) ≡ is_sure calls
sure_stays calls = stays calls.failing calls.fuse
