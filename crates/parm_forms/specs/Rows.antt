-- The form and the default of each keyword, kind by kind, in the order of the keywords.
use Rattle.std.specs.Prelude.{ℕ, List, [], ◌∷◌, ◌-◌, ◌^◌, Option, codes, map}
use Rattle.parm_keys.specs.Words.{row_of}
use Rattle.parm_keys.specs.Kinds.{fsd_words, fwd_words, general_words, hd_words, rd_words, sd_words, wd_words}
use Rattle.parm_forms.specs.declared.choice.Choice.TheVariants as choice
use Rattle.parm_forms.specs.declared.form.Form.{Form}
use Rattle.parm_forms.specs.declared.form.Form.TheVariants.{BlockSize, BlockSizes, Choice, Choices, Count, Number, Path, Patterns, Rate, Seconds, SeekPercent, Size, Sizes, StorePatterns, Word, Words}
use Rattle.parm_forms.specs.declared.form.Form.TheVariants as form
use Rattle.parm_forms.specs.declared.rows.Kind.{Kind}
use Rattle.parm_forms.specs.declared.rows.Kind.TheVariants.{Fsd, Fwd, General, Hd, Rd, Sd, Wd}
use Rattle.parm_forms.specs.declared.value.Value.{Value}
use Rattle.parm_forms.specs.declared.value.Value.TheVariants.{Numbers, Texts}

-- a keyword's form and default
pub record Row : Type 0 where
  pub form : Form
  pub default : Value

abbrev pub row : Form → Value → Row
row form default = record { form = form; default = default }

-- no numbers, or no texts, where a keyword isn't given and has no default
abbrev pub no_number : Value
no_number = Numbers []

abbrev pub no_text : Value
no_text = Texts []

abbrev pub number : ℕ → Value
number n = Numbers (n ∷ [])

abbrev pub text : List ℕ → Value
text t = Texts (t ∷ [])

-- create_anchors, data_errors, journal_sectors, messagescan, validate
abbrev pub general_rows : List Row
general_rows =
    row (Choice choice.YesNo) (text (codes "no"))
    ∷ row (Number 1 10000) (number 50)
    ∷ row (Number 1 65536) (number 4096)
    ∷ row (Choice choice.YesNo) (text (codes "no"))
    ∷ row (Choices choice.Validate) (text (codes "yes"))
    ∷ []

-- jvms, shell, system, user, vdbench
abbrev pub hd_rows : List Row
hd_rows =
    row (Number 1 16) (number 1)
    ∷ row Path (text [])
    ∷ row Word no_text
    ∷ row Path (text [])
    ∷ row Path (text [])
    ∷ []

-- count, host, journal, keyblock, lun, openflags, size, threads
abbrev pub sd_rows : List Row
sd_rows =
    row Count no_number
    ∷ row Patterns (text (codes "*"))
    ∷ row Path no_text
    ∷ row BlockSize no_number
    ∷ row Path no_text
    ∷ row Words no_text
    ∷ row Size no_number
    ∷ row (Number 1 256) (number 8)
    ∷ []

-- host, rdpct, sd, seekpct, skew, xfersize
abbrev pub wd_rows : List Row
wd_rows =
    row Patterns (text (codes "*"))
    ∷ row (Number 0 100) (number 100)
    ∷ row StorePatterns no_text
    ∷ row SeekPercent (number 100)
    ∷ row (Number 1 100) no_number
    ∷ row BlockSize (number 4096)
    ∷ []

-- elapsed, format, forrdpct, forthreads, forxfersize, fwd, fwdrate, interval, iorate, openflags, turns, wd
abbrev pub rd_rows : List Row
rd_rows =
    row Seconds (number 30)
    ∷ row (Choice choice.Format) (text (codes "no"))
    ∷ row (form.Numbers 0 100) no_number
    ∷ row (form.Numbers 1 256) no_number
    ∷ row BlockSizes no_number
    ∷ row Patterns no_text
    ∷ row Rate (number 0)
    ∷ row Seconds (number 1)
    ∷ row Rate (number 0)
    ∷ row Words no_text
    ∷ row (Number 1 (2 ^ 32 - 1)) (number (2 ^ 32 - 1))
    ∷ row Patterns no_text
    ∷ []

-- anchor, count, depth, distribution, files, journal, keyblock, openflags, shared, sizes, width
abbrev pub fsd_rows : List Row
fsd_rows =
    row Path no_text
    ∷ row Count no_number
    ∷ row (Number 1 1048576) no_number
    ∷ row (Choice choice.Distribution) (text (codes "bottom"))
    ∷ row (Number 1 1048576) no_number
    ∷ row Path no_text
    ∷ row BlockSize no_number
    ∷ row Words no_text
    ∷ row (Choice choice.No) (text (codes "no"))
    ∷ row Sizes no_number
    ∷ row (Number 1 1048576) no_number
    ∷ []

-- fileio, fileselect, fsd, host, operation, rdpct, skew, threads, xfersize
abbrev pub fwd_rows : List Row
fwd_rows =
    row (Choice choice.Access) (text (codes "sequential"))
    ∷ row (Choice choice.Access) (text (codes "sequential"))
    ∷ row StorePatterns no_text
    ∷ row Patterns (text (codes "*"))
    ∷ row (Choice choice.Operation) (text (codes "read"))
    ∷ row (Number 0 100) no_number
    ∷ row (Number 1 100) no_number
    ∷ row (Number 1 256) (number 1)
    ∷ row BlockSize (number 4096)
    ∷ []

unfoldable pub rows_of : Kind → List Row
rows_of General = general_rows
rows_of Hd = hd_rows
rows_of Sd = sd_rows
rows_of Wd = wd_rows
rows_of Rd = rd_rows
rows_of Fsd = fsd_rows
rows_of Fwd = fwd_rows

unfoldable pub words_of : Kind → List (List ℕ)
words_of General = general_words
words_of Hd = hd_words
words_of Sd = sd_words
words_of Wd = wd_words
words_of Rd = rd_words
words_of Fsd = fsd_words
words_of Fwd = fwd_words

abbrev pub forms_of : Kind → List Form
forms_of kind = map (λ row. row.form) (rows_of kind)

abbrev pub defaults_of : Kind → List Value
defaults_of kind = map (λ row. row.default) (rows_of kind)

-- the row of a keyword of a kind
abbrev pub row_number : Kind → List ℕ → Option ℕ
row_number kind word = row_of (words_of kind) word
