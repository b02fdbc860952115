-- An event, a list of events and a schedule have one outcome.
use Rattle.std.specs.Prelude.{Option, None, Some}
use Rattle.std.proofs.Common.{◌≡◌, inl, inr, ℕ, zero, suc, ◌+◌, ◌<◌, false, List, [], ◌∷◌, length, refl, sym, ap, ◌∙◌, subst}
use Rattle.std.proofs.lemmas.List.FromFn.{fill_by_all}
use Rattle.rand_pcg.specs.Lcg.{Lcg}
use Rattle.key_state.specs.declared.entry.Entry.{Entry}
use Rattle.key_state.specs.declared.entry.Entry.TheVariants.{Settled, Pending, Bad}
use Rattle.key_state.specs.Entries.{entry_at}
use Rattle.interleave_core.specs.declared.event.Event.{Event}
use Rattle.interleave_core.specs.declared.event.Event.TheVariants as event
use Rattle.interleave_core.specs.declared.summary.Summary.{Summary}
use Rattle.interleave_core.specs.Event.{Changes, Run}
use Rattle.interleave_core.specs.Fits.{Settles}
use Rattle.interleave_core.specs.Once.{OneStep, OneRun, OneSchedule}
use Rattle.interleave_core.specs.Schedule.{draw, seeded, wrong_of, Tries, Stops, Turn, Turns, no_counts}
use Rattle.interleave_core.specs.World.{World, first_world, entry_of, key_of}

-- Sectors confirm one entry.
settles_once : (key : ℕ → ℕ) (many : ℕ) (e one other : Entry) → Settles key many e one → Settles key many e other → one ≡ other
settles_once key many Bad one other first second = first ∙ sym second
settles_once key many (Settled k) one other first second = elim first [
  | inl all ↦ elim second [ inl again ↦ all.1 ∙ sym again.1 | inr bad ↦ absurd (bad.0 all.0) ]
  | inr bad ↦ elim second [ inl all ↦ absurd (bad.0 all.0) | inr again ↦ bad.1 ∙ sym again.1 ]
]
settles_once key many (Pending old new) one other first second = elim first [
  | inl all ↦ elim second [
    | inl again ↦ all.1 ∙ sym again.1
    | inr rest ↦ elim rest [
      | inl less ↦ absurd (less.0 all.0)
      | inr more ↦ elim more [ inl mixed ↦ absurd (mixed.0 all.0) | inr bad ↦ absurd (bad.0 (λ s within. inr (all.0 s within))) ]
    ]
  ]
  | inr left ↦ elim left [
    | inl all ↦ elim second [
      | inl again ↦ absurd (all.0 again.0)
      | inr rest ↦ elim rest [
        | inl less ↦ all.2 ∙ sym less.2
        | inr more ↦ elim more [ inl mixed ↦ absurd (mixed.1 all.1) | inr bad ↦ absurd (bad.0 (λ s within. inl (all.1 s within))) ]
      ]
    ]
    | inr behind ↦ elim behind [
      | inl mixed ↦ elim second [
        | inl again ↦ absurd (mixed.0 again.0)
        | inr rest ↦ elim rest [
          | inl less ↦ absurd (mixed.1 less.1)
          | inr more ↦ elim more [ inl same ↦ mixed.3 ∙ sym same.3 | inr bad ↦ absurd (bad.0 mixed.2) ]
        ]
      ]
      | inr bad ↦ elim second [
        | inl again ↦ absurd (bad.0 (λ s within. inr (again.0 s within)))
        | inr rest ↦ elim rest [
          | inl less ↦ absurd (bad.0 (λ s within. inl (less.1 s within)))
          | inr more ↦ elim more [ inl mixed ↦ absurd (bad.0 mixed.2) | inr same ↦ bad.1 ∙ sym same.1 ]
        ]
      ]
    ]
  ]
]

-- Lists of entries that agree at each block are one list.
entries_once : (one other : List Entry) (many : ℕ) → length one ≡ many → length other ≡ many
    → ((b : ℕ) → b < many → entry_at one b ≡ entry_at other b) → one ≡ other
entries_once one other many long as_long each =
    fill_by_all (entry_at other) one many Bad long each ∙ sym (fill_by_all (entry_at other) other many Bad as_long (λ b within. refl))

recovered_once : (w one other : World) → Changes w event.Recover one → Changes w event.Recover other → one ≡ other
recovered_once w one other first second =
    let same : one.base ≡ other.base
    = entries_once one.base other.base (length w.base) first.1 second.1 (λ b within. settles_once (key_of w b) w.sectors (entry_of w b) _ _ (first.2 b within) (second.2 b within)) in
    first.0 ∙ ap (λ (l : List Entry). record w { base = l; records = []; synced = 0; stopped = false }) same ∙ sym second.0

changes_once : (w : World) (e : Event) (one other : World) → Changes w e one → Changes w e other → one ≡ other
changes_once w (event.Claim a b) one other first second = elim first [
  | inl busy ↦ elim second [ inl again ↦ busy.1 ∙ sym again.1 | inr free ↦ absurd (free.0 busy.0) ]
  | inr free ↦ elim second [ inl busy ↦ absurd (free.0 busy.0) | inr again ↦ free.1 ∙ sym again.1 ]
]
changes_once w (event.Begin a) one other first second = elim first [
  | inl some ↦ elim second [ inl again ↦ some.1 ∙ sym again.1 | inr none ↦ absurd (none.0 some.0) ]
  | inr none ↦ elim second [ inl some ↦ absurd (none.0 some.0) | inr again ↦ none.1 ∙ sym again.1 ]
]
changes_once w event.Sync one other first second = first ∙ sym second
changes_once w (event.Write a b s) one other first second = first ∙ sym second
changes_once w (event.Ack a) one other first second = first ∙ sym second
changes_once w (event.Fault a) one other first second = first ∙ sym second
changes_once w (event.End a) one other first second = first ∙ sym second
changes_once w (event.Bad a b) one other first second = first ∙ sym second
changes_once w (event.Clear a) one other first second = first ∙ sym second
changes_once w (event.Release a) one other first second = first ∙ sym second
changes_once w event.Turnover one other first second = first ∙ sym second
changes_once w (event.Stop keep) one other first second = first ∙ sym second
changes_once w event.Recover one other first second = recovered_once w one other first second

pub one_step : OneStep
one_step w e one other first second = elim first [
  | inl on ↦ elim second [ inl again ↦ changes_once w e one other on.1 again.1 | inr off ↦ absurd (off.0 on.0) ]
  | inr off ↦ elim second [ inl on ↦ absurd (off.0 on.0) | inr again ↦ off.1 ∙ sym again.1 ]
]

pub one_run : OneRun
one_run w [] one other first second = first ∙ sym second
one_run w (e ∷ list) one other first second =
    let same : first.0 ≡ second.0 = one_step w e first.0 second.0 first.1 second.1 in
    one_run second.0 list one other (subst (λ (x : World). Run x list one) same first.2) second.2

-- One step of a schedule leaves one world and one set of counts.
record Agree (one other : World) (counts others : Summary) : Type 0 where
  world : one ≡ other
  counts_agree : counts ≡ others

tries_once : (w one other : World) (e : Option Event) (before counts others : Summary) → Tries w e one before counts → Tries w e other before others
    → Agree one other counts others
tries_once w one other None before counts others first second = record { world = first.0 ∙ sym second.0; counts_agree = first.1 ∙ sym second.1 }
tries_once w one other (Some e) before counts others first second = elim first [
  | inl on ↦ elim second [
    | inl again ↦ record { world = changes_once w e one other on.1 again.1; counts_agree = on.2 ∙ sym again.2 }
    | inr off ↦ absurd (off.0 on.0)
  ]
  | inr off ↦ elim second [
    | inl on ↦ absurd (off.0 on.0)
    | inr again ↦ record { world = off.1 ∙ sym again.1; counts_agree = off.2 ∙ sym again.2 }
  ]
]

stops_once : (w one other : World) (keep : ℕ) (before counts others : Summary) → Stops w keep one before counts → Stops w keep other before others
    → Agree one other counts others
stops_once w one other keep before counts others first second = elim first [
  | inl on ↦ elim second [
    | inl again ↦
        let same : on.0 ≡ again.0 = on.2 ∙ sym again.2 in
        record {
          world = recovered_once again.0 one other (subst (λ (x : World). Changes x event.Recover one) same on.3) again.3;
          counts_agree =
              on.4 ∙ ap (λ (x : World). record before { taken = before.taken + 1; stops = before.stops + 1; wrong = before.wrong + wrong_of x }) same ∙ sym again.4;
        }
    | inr off ↦ absurd (off.0 on.1)
  ]
  | inr off ↦ elim second [
    | inl on ↦ absurd (off.0 on.1)
    | inr again ↦ record { world = off.1 ∙ sym again.1; counts_agree = off.2 ∙ sym again.2 }
  ]
]

turn_once : (w one other : World) (x y z : ℕ) (before counts others : Summary) → Turn w x y z one before counts → Turn w x y z other before others
    → Agree one other counts others
turn_once w one other x y z before counts others first second = elim first [
  | inl stop ↦ elim second [ inl again ↦ stops_once w one other _ before counts others stop.1 again.1 | inr not ↦ absurd (not.0 stop.0) ]
  | inr not ↦ elim second [ inl stop ↦ absurd (not.0 stop.0) | inr again ↦ tries_once w one other _ before counts others not.1 again.1 ]
]

turns_once : (n : ℕ) (w one other : World) (g : Lcg) (before counts others : Summary) → Turns n w g before one counts → Turns n w g before other others
    → counts ≡ others
turns_once zero w one other g before counts others first second = first.1 ∙ sym second.1
turns_once (suc n) w one other g before counts others first second =
    let same = turn_once w first.0 second.0 (draw g).x (draw g).y (draw g).z before first.1 second.1 first.2 second.2 in
    turns_once n second.0 one other (draw g).rest second.1 counts others
    (subst (λ (c : Summary). Turns n second.0 (draw g).rest c one counts) same.counts_agree
    (subst (λ (x : World). Turns n x (draw g).rest first.1 one counts) same.world first.3))
    second.3

pub one_schedule : OneSchedule
one_schedule n one other first second = turns_once n (first_world 64 8 4) first.0 second.0 (seeded n) no_counts one other first.1 second.1
