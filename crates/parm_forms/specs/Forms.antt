-- What the items of a keyword spell.
use Rattle.std.specs.Prelude.{ℕ, List, [], ◌∷◌, Bool, ◌-◌, ◌%◌, ◌&&◌, ◌||◌, ◌==◌, nat_le, nat_eq, if◌then◌else◌, Option, Some, None, Result, Ok, Err, codes, length, map, slice_index, take, ◌≡◌}
use Rattle.std.specs.List.{list_all, list_any}
use Rattle.std.specs.Str.{bytes_eq}
use Rattle.vd_base.specs.Name.{is_name_byte, is_store_name}
use Rattle.parm_value.specs.Values.{number_in, seconds_in, size_in, spelled_number}
use Rattle.parm_value.specs.declared.fault.ValueFault.{ValueFault}
use Rattle.parm_value.specs.declared.fault.ValueFault.TheVariants as value
use Rattle.parm_lex.specs.Spans.{bytes_of}
use Rattle.parm_lex.specs.declared.span.Span.{Span}
use Rattle.parm_forms.specs.declared.choice.Choice.{Choice}
use Rattle.parm_forms.specs.declared.choice.Choice.TheVariants as choice
use Rattle.parm_forms.specs.declared.fault.ParmKind.{ParmKind}
use Rattle.parm_forms.specs.declared.fault.ParmKind.TheVariants.{BadChoice, BadName, BadNumber, OutOfRange, ValueCount}
use Rattle.parm_forms.specs.declared.fault.ValueRefused.{ValueRefused}
use Rattle.parm_forms.specs.declared.fault.ValueRefused.TheVariants as refused
use Rattle.parm_forms.specs.declared.form.Form.{Form}
use Rattle.parm_forms.specs.declared.form.Form.TheVariants as form
use Rattle.parm_forms.specs.declared.value.Value.{Value}
use Rattle.parm_forms.specs.declared.value.Value.TheVariants.{Numbers, Texts}

infixl 10 ◌>>=◌
abbrev pub ◌>>=◌ : {A B : Type 0} → Result A ParmKind → (A → Result B ParmKind) → Result B ParmKind
(Ok x) >>= f = f x
(Err fault) >>= f = Err fault

-- What a function answered is what is defined, unless memory ran out.
abbrev pub Gives : {A B : Type 0} → (A → B) → Result A ValueRefused → Result B ParmKind → Type 0
Gives view (Ok x) defined = defined ≡ Ok (view x)
Gives view (Err refused.NoMemory) defined = Unit {0}
Gives view (Err (refused.Fault kind)) defined = defined ≡ Err kind

-- the texts of spans of a file
abbrev pub texts_at : List ℕ → List Span → List (List ℕ)
texts_at bytes spans = map (bytes_of bytes) spans

abbrev pub mapped : {A B : Type 0} → (A → B) → Result A ParmKind → Result B ParmKind
mapped f (Ok x) = Ok (f x)
mapped f (Err fault) = Err fault

-- each item by itself; the first faulty one counts
abbrev pub each : {A : Type 0} → (List ℕ → Result A ParmKind) → List (List ℕ) → Result (List A) ParmKind
each read [] = Ok []
each read (item ∷ items) = read item >>= λ x. each read items >>= λ xs. Ok (x ∷ xs)

-- one item
abbrev pub one : {A : Type 0} → (List ℕ → Result A ParmKind) → List (List ℕ) → Result (List A) ParmKind
one read [] = Err ValueCount
one read (item ∷ []) = each read (item ∷ [])
one read (item ∷ more ∷ items) = Err ValueCount

-- one item or more
abbrev pub some : {A : Type 0} → (List ℕ → Result A ParmKind) → List (List ℕ) → Result (List A) ParmKind
some read [] = Err ValueCount
some read (item ∷ items) = each read (item ∷ items)

abbrev pub kind_of : ValueFault → ParmKind
kind_of value.BadNumber = BadNumber
kind_of value.OutOfRange = OutOfRange

abbrev pub valued : Result ℕ ValueFault → Result ℕ ParmKind
valued (Ok n) = Ok n
valued (Err fault) = Err (kind_of fault)

abbrev pub number : ℕ → ℕ → List ℕ → Result ℕ ParmKind
number least greatest item = valued (number_in least greatest item)

abbrev pub size : List ℕ → Result ℕ ParmKind
size item = valued (size_in item)

abbrev pub seconds : List ℕ → Result ℕ ParmKind
seconds item = valued (seconds_in item)

-- a multiple of 512 up to 1,048,576
abbrev pub block_size : List ℕ → Result ℕ ParmKind
block_size item = size item >>= λ n. if nat_le n 1048576 && nat_eq (n % 512) 0 then Ok n else Err OutOfRange

-- a word for a number, or a number of a range; 21 digits are neither
abbrev pub number_or_fault : ℕ → ℕ → Option ℕ → Result ℕ ParmKind
number_or_fault least greatest None = Err BadChoice
number_or_fault least greatest (Some n) = if nat_le least n && nat_le n greatest then Ok n else Err OutOfRange

abbrev pub rate : List ℕ → Result ℕ ParmKind
rate item = if bytes_eq item (codes "max") then Ok 0 else number_or_fault 1 10000000 (spelled_number item)

abbrev pub seek_percent : List ℕ → Result ℕ ParmKind
seek_percent item =
    if bytes_eq item (codes "random") || bytes_eq item (codes "rand") then Ok 100
    else if bytes_eq item (codes "sequential") || bytes_eq item (codes "seq") then Ok 0
    else number_or_fault 0 100 (spelled_number item)

abbrev pub kept_if : ParmKind → Bool → List ℕ → Result (List ℕ) ParmKind
kept_if kind holds item = if holds then Ok item else Err kind

abbrev pub path : List ℕ → Result (List ℕ) ParmKind
path item = kept_if BadChoice (nat_le 1 (length item) && nat_le (length item) 1024) item

abbrev pub word : List ℕ → Result (List ℕ) ParmKind
word item = Ok item

-- the words of a choice
abbrev pub words_of : Choice → List (List ℕ)
words_of choice.No = codes "no" ∷ []
words_of choice.YesNo = codes "yes" ∷ codes "no" ∷ []
words_of choice.Validate = codes "yes" ∷ codes "no_preread" ∷ codes "read_after_write" ∷ []
words_of choice.Format = codes "no" ∷ codes "yes" ∷ codes "only" ∷ []
words_of choice.Distribution = codes "bottom" ∷ codes "all" ∷ []
words_of choice.Operation = codes "read" ∷ codes "write" ∷ []
words_of choice.Access = codes "random" ∷ codes "sequential" ∷ []

abbrev pub chosen : Choice → List ℕ → Result (List ℕ) ParmKind
chosen choice item = kept_if BadChoice (list_any (λ word. bytes_eq word item) (words_of choice)) item

-- a name other than a store's: 1 to 32 letters, digits, _, - and .
abbrev pub is_other_byte : ℕ → Bool
is_other_byte byte = is_name_byte byte || byte == 45 || byte == 46

abbrev pub is_other_name : List ℕ → Bool
is_other_name item = nat_le 1 (length item) && nat_le (length item) 32 && list_all is_other_byte item

-- a name, or a prefix of one with a star behind it; the star may stand alone
abbrev pub is_pattern : (List ℕ → Bool) → List ℕ → Bool
is_pattern is_name item =
    if nat_eq (slice_index item (length item - 1)) 42
    then nat_eq (length item) 1 || is_name (take (length item - 1) item)
    else is_name item

abbrev pub pattern : (List ℕ → Bool) → List ℕ → Result (List ℕ) ParmKind
pattern is_name item = kept_if BadName (is_pattern is_name item) item

-- the first number, and how many
abbrev pub count : List (List ℕ) → Result (List ℕ) ParmKind
count [] = Err ValueCount
count (first ∷ []) = Err ValueCount
count (first ∷ many ∷ []) = number 0 100000 first >>= λ n. number 1 64 many >>= λ m. Ok (n ∷ m ∷ [])
count (first ∷ many ∷ more ∷ items) = Err ValueCount

-- sizes and percentages in turn
abbrev pub size_pairs : List (List ℕ) → Result (List ℕ) ParmKind
size_pairs [] = Ok []
size_pairs (item ∷ []) = Err ValueCount
size_pairs (item ∷ percent ∷ items) = size item >>= λ n. number 0 100 percent >>= λ p. size_pairs items >>= λ rest. Ok (n ∷ p ∷ rest)

abbrev pub sizes : List (List ℕ) → Result (List ℕ) ParmKind
sizes [] = Err ValueCount
sizes (item ∷ []) = each size (item ∷ [])
sizes (item ∷ percent ∷ items) = if nat_eq (length items % 2) 0 then size_pairs (item ∷ percent ∷ items) else Err ValueCount

-- the value that items spell in a form, or the first fault
unfoldable pub value_of : Form → List (List ℕ) → Result Value ParmKind
value_of (form.Number least greatest) items = mapped Numbers (one (number least greatest) items)
value_of (form.Numbers least greatest) items = mapped Numbers (some (number least greatest) items)
value_of form.Size items = mapped Numbers (one size items)
value_of form.Sizes items = mapped Numbers (sizes items)
value_of form.BlockSize items = mapped Numbers (one block_size items)
value_of form.BlockSizes items = mapped Numbers (some block_size items)
value_of form.Seconds items = mapped Numbers (one seconds items)
value_of form.Rate items = mapped Numbers (one rate items)
value_of form.SeekPercent items = mapped Numbers (one seek_percent items)
value_of form.Path items = mapped Texts (one path items)
value_of form.Word items = mapped Texts (one word items)
value_of form.Words items = mapped Texts (some word items)
value_of (form.Choice choice) items = mapped Texts (one (chosen choice) items)
value_of (form.Choices choice) items = mapped Texts (some (chosen choice) items)
value_of form.StorePatterns items = mapped Texts (some (pattern is_store_name) items)
value_of form.Patterns items = mapped Texts (some (pattern is_other_name) items)
value_of form.Count items = mapped Numbers (count items)
