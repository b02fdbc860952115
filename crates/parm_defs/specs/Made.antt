-- The definitions that one line makes: names, numbers, and what is filled in.
use Rattle.std.specs.Prelude.{ℕ, List, [], ◌∷◌, ◌++◌, Bool, true, false, ◌&&◌, not, if◌then◌else◌, Option, Some, None, codes, decimal, filter, map, slice_get, slice_index_or, slice_set}
use Rattle.std.specs.List.{range_with_len}
use Rattle.std.specs.Str.{bytes_eq}
use Rattle.parm_forms.specs.Rows.{row_number}
use Rattle.parm_forms.specs.declared.rows.Kind.{Kind}
use Rattle.parm_forms.specs.declared.value.Value.{Value}
use Rattle.parm_forms.specs.declared.value.Value.TheVariants.{Numbers, Texts}
use Rattle.parm_defs.specs.declared.given.Given.{Given}
use Rattle.parm_defs.specs.declared.made.Def.{Def}
use Rattle.parm_defs.specs.Parts.{is_among}

abbrev pub value_in : List Value → Option ℕ → Option Value
value_in values None = None
value_in values (Some row) = slice_get values row

-- the value of a keyword, where its kind has it
abbrev pub value_at : Kind → List ℕ → List Value → Option Value
value_at kind word values = value_in values (row_number kind word)

abbrev pub changed_in : (Value → Value) → List Value → Option ℕ → List Value
changed_in change values None = values
changed_in change values (Some row) = slice_set values row (change (slice_index_or values row (Numbers [])))

-- a keyword's value changed, where its kind has it
abbrev pub changed_at : Kind → List ℕ → (Value → Value) → List Value → List Value
changed_at kind word change values = changed_in change values (row_number kind word)

-- texts with a number behind them
abbrev pub with_number : List ℕ → Value → Value
with_number number (Numbers numbers) = Numbers numbers
with_number number (Texts texts) = Texts (map (λ text. text ++ number) texts)

-- a text where there is none
abbrev pub or_text : List ℕ → Value → Value
or_text text (Texts []) = Texts (text ∷ [])
or_text text (Texts (first ∷ texts)) = Texts (first ∷ texts)
or_text text (Numbers numbers) = Numbers numbers

-- a number where there is none
abbrev pub or_number : ℕ → Value → Value
or_number number (Numbers []) = Numbers (number ∷ [])
or_number number (Numbers (first ∷ numbers)) = Numbers (first ∷ numbers)
or_number number (Texts texts) = Texts texts

-- of 100 turns of an operation, so many read
abbrev pub reads_of : Option Value → ℕ
reads_of (Some (Texts (operation ∷ []))) = if bytes_eq operation (codes "read") then 100 else 0
reads_of _ = 0

abbrev pub no_numbers : Value → Value
no_numbers value = Numbers []

-- the number behind the path and the journal, where they are given, and no count
abbrev pub numbered : Kind → List ℕ → List Value → List Value
numbered kind number values =
    changed_at kind (codes "count") no_numbers
    (changed_at kind (codes "journal") (with_number number)
    (changed_at kind (codes "anchor") (with_number number)
    (changed_at kind (codes "lun") (with_number number) values)))

-- Where nothing is given: a host's system is its name, a store's journal its name and .jnl, and an operation says how many turns read. The
-- reads of a workload over stores always have their default.
abbrev pub filled : Kind → List ℕ → List Value → List Value
filled kind name values =
    changed_at kind (codes "rdpct") (or_number (reads_of (value_at kind (codes "operation") values)))
    (changed_at kind (codes "journal") (or_text (name ++ codes ".jnl"))
    (changed_at kind (codes "system") (or_text name) values))

abbrev pub loop_words : List (List ℕ)
loop_words = codes "forthreads" ∷ codes "forxfersize" ∷ codes "forrdpct" ∷ []

abbrev pub has_number : Option Value → Bool
has_number (Some (Numbers (number ∷ numbers))) = true
has_number _ = false

-- a keyword that isn't given, and has numbers from a default
abbrev pub is_inherited : Kind → Given → List ℕ → Bool
is_inherited kind given word = not (is_among word given.words) && has_number (value_at kind word given.values)

-- its own loops in the order of its parts, then those that it has from a default alone
abbrev pub loops_of : Kind → Given → List (List ℕ)
loops_of kind given =
    filter (λ word. is_among word loop_words) given.words
    ++ filter (is_inherited kind given) loop_words

-- the definition with a number behind its name; the number is empty where nothing is counted
abbrev pub made : Kind → ℕ → List ℕ → Given → List ℕ → Def
made kind line name given number = record {
  line = line;
  name = name ++ number;
  values = filled kind (name ++ number) (numbered kind number given.values);
  loops = loops_of kind given;
}

-- the numbers of a count, in decimal
abbrev pub numbers_of : Option Value → List (List ℕ)
numbers_of (Some (Numbers (first ∷ many ∷ []))) = map decimal (range_with_len first many)
numbers_of _ = [] ∷ []

-- a definition for each number of its count
abbrev pub all_made : Kind → ℕ → List ℕ → Given → List Def
all_made kind line name given = map (made kind line name given) (numbers_of (value_at kind (codes "count") given.values))
