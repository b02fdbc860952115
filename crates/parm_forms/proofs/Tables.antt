-- Each default fits its form, or is nothing.
use Rattle.std.proofs.Common.{◌≡◌, ℕ, zero, suc, List, [], ◌∷◌, inl, inr, Some, slice_get, map, refl, codes, IsTrue, ◌-◌, ◌^◌, ◌≤◌, Bool, true, nat_le, arith, Ok, length, slice_set}
use Rattle.std.proofs.lemmas.Bool.Decides.{nat_tests}
use Rattle.std.specs.List.{list_all}
use Rattle.std.proofs.lemmas.List.Elements.{All-from_recursion}
use Rattle.parm_forms.specs.Fits.{AreValues, FitsOrNothing, IsOneOf, item_count}
use Rattle.parm_forms.specs.Forms.{is_other_name, is_pattern, value_of, words_of}
use Rattle.parm_forms.specs.Rows.{Row, defaults_of, forms_of, fsd_rows, fwd_rows, general_rows, hd_rows, rd_rows, rows_of, sd_rows, wd_rows}
use Rattle.parm_forms.specs.declared.choice.Choice.TheVariants as choice
use Rattle.parm_forms.specs.declared.form.Form.{Form}
use Rattle.parm_forms.specs.declared.rows.Kind.{Kind}
use Rattle.parm_forms.specs.declared.rows.Kind.TheVariants as kind
use Rattle.parm_forms.specs.declared.value.Value.{Value}
use Rattle.parm_forms.proofs.Fitting.{and_both, one_of, tested, values_fit}
use Rattle.parm_forms.proofs.Items.{values_have_their_items}

abbrev RowsFit : List Row → Type 0
RowsFit [] = Unit {0}
RowsFit (row ∷ rows) = FitsOrNothing row.form row.default × RowsFit rows

some_same : {A : Type 0} {x y : A} → Some x ≡ Some y → x ≡ y
some_same e = cc

general_fit : RowsFit general_rows
general_fit = (
  inl (one_of (words_of choice.YesNo) (codes "no") refl),
  (
    inl (tested 1 10000 50 refl),
    (
      inl (tested 1 65536 4096 refl),
      (
        inl (one_of (words_of choice.YesNo) (codes "no") refl),
        (
          inl (All-from_recursion (IsOneOf (words_of choice.Validate)) (codes "yes" ∷ []) (one_of (words_of choice.Validate) (codes "yes") refl, tt)),
          tt,
        ),
      ),
    ),
  ),
)

hd_fit : RowsFit hd_rows
hd_fit = (
  inl (tested 1 16 1 refl),
  (
    inr refl,
    (
      inr refl,
      (
        inr refl,
        (
          inr refl,
          tt,
        ),
      ),
    ),
  ),
)

sd_fit : RowsFit sd_rows
sd_fit = (
  inr refl,
  (
    inl (All-from_recursion (λ text. IsTrue (is_pattern is_other_name text)) (codes "*" ∷ []) (refl, tt)),
    (
      inr refl,
      (
        inr refl,
        (
          inr refl,
          (
            inr refl,
            (
              inr refl,
              (
                inl (tested 1 256 8 refl),
                tt,
              ),
            ),
          ),
        ),
      ),
    ),
  ),
)

wd_fit : RowsFit wd_rows
wd_fit = (
  inl (All-from_recursion (λ text. IsTrue (is_pattern is_other_name text)) (codes "*" ∷ []) (refl, tt)),
  (
    inl (tested 0 100 100 refl),
    (
      inr refl,
      (
        inl (tested 0 100 100 refl),
        (
          inr refl,
          (
            inl (record { range = tested 512 1048576 4096 refl; whole = refl }),
            tt,
          ),
        ),
      ),
    ),
  ),
)

rd_fit : RowsFit rd_rows
rd_fit = (
  inl (tested 1 8640000 30 refl),
  (
    inl (one_of (words_of choice.Format) (codes "no") refl),
    (
      inr refl,
      (
        inr refl,
        (
          inr refl,
          (
            inr refl,
            (
              inl (tested 0 10000000 0 refl),
              (
                inl (tested 1 8640000 1 refl),
                (
                  inl (tested 0 10000000 0 refl),
                  (
                    inr refl,
                    (
                      inl (tested 1 (2 ^ 32 - 1) (2 ^ 32 - 1) refl),
                      (
                        inr refl,
                        tt,
                      ),
                    ),
                  ),
                ),
              ),
            ),
          ),
        ),
      ),
    ),
  ),
)

fsd_fit : RowsFit fsd_rows
fsd_fit = (
  inr refl,
  (
    inr refl,
    (
      inr refl,
      (
        inl (one_of (words_of choice.Distribution) (codes "bottom") refl),
        (
          inr refl,
          (
            inr refl,
            (
              inr refl,
              (
                inr refl,
                (
                  inl (one_of (words_of choice.No) (codes "no") refl),
                  (
                    inr refl,
                    (
                      inr refl,
                      tt,
                    ),
                  ),
                ),
              ),
            ),
          ),
        ),
      ),
    ),
  ),
)

fwd_fit : RowsFit fwd_rows
fwd_fit = (
  inl (one_of (words_of choice.Access) (codes "sequential") refl),
  (
    inl (one_of (words_of choice.Access) (codes "sequential") refl),
    (
      inr refl,
      (
        inl (All-from_recursion (λ text. IsTrue (is_pattern is_other_name text)) (codes "*" ∷ []) (refl, tt)),
        (
          inl (one_of (words_of choice.Operation) (codes "read") refl),
          (
            inr refl,
            (
              inr refl,
              (
                inl (tested 1 256 1 refl),
                (
                  inl (record { range = tested 512 1048576 4096 refl; whole = refl }),
                  tt,
                ),
              ),
            ),
          ),
        ),
      ),
    ),
  ),
)

abbrev is_short : Row → Bool
is_short row = nat_le (item_count row.default) 1

rows_are_values : (most : ℕ) (rows : List Row) → 1 ≤ most → RowsFit rows → list_all is_short rows ≡ true → AreValues most (map (λ row. row.form) rows) (map (λ row. row.default) rows)
rows_are_values most [] one fit short = tt
rows_are_values most (row ∷ rows) one fit short =
    let both = and_both (is_short row) (list_all is_short rows) short in
    let few : item_count row.default ≤ 1 = grind (arith, nat_tests, both.0) in
    (record { fits = fit.0; few = omega (arith, few, one) }, rows_are_values most rows one fit.1 both.1)

pub defaults_fit : (kind : Kind) (most : ℕ) → 1 ≤ most → AreValues most (forms_of kind) (defaults_of kind)
unfolding rows_of
defaults_fit kind.General most one = rows_are_values most general_rows one general_fit refl
defaults_fit kind.Hd most one = rows_are_values most hd_rows one hd_fit refl
defaults_fit kind.Sd most one = rows_are_values most sd_rows one sd_fit refl
defaults_fit kind.Wd most one = rows_are_values most wd_rows one wd_fit refl
defaults_fit kind.Rd most one = rows_are_values most rd_rows one rd_fit refl
defaults_fit kind.Fsd most one = rows_are_values most fsd_rows one fsd_fit refl
defaults_fit kind.Fwd most one = rows_are_values most fwd_rows one fwd_fit refl

pub kept : (most : ℕ) (forms : List Form) (values : List Value) (row : ℕ) (form : Form) (value : Value) → AreValues most forms values → slice_get forms row ≡ Some form → FitsOrNothing form value → item_count value ≤ most → AreValues most forms (slice_set values row value)
kept most [] [] row form value are is fits few = are
kept most [] (old ∷ values) row form value are is fits few = absurd are
kept most (first ∷ forms) [] row form value are is fits few = absurd are
kept most (first ∷ forms) (old ∷ values) zero form value are is fits few =
    let same : first ≡ form = some_same is in
    rw same (record { fits = fits; few = few }, are.1)
kept most (first ∷ forms) (old ∷ values) (suc row) form value are is fits few =
    (are.0, kept most forms values row form value are.1 is fits few)

pub fitting_values_stay : (most : ℕ) (forms : List Form) (values : List Value) (row : ℕ) (form : Form) (items : List (List ℕ)) (value : Value) → AreValues most forms values → slice_get forms row ≡ Some form → length items ≤ most → value_of form items ≡ Ok value → AreValues most forms (slice_set values row value)
fitting_values_stay most forms values row form items value are is few read =
    let as_many = values_have_their_items form items value read in
    kept most forms values row form value are is (inl (values_fit form items value read)) (omega (arith, as_many, few))
