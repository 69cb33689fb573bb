-- The rows that `clap` has for a subcommand's options after its walk: one for each option that was given, in their
-- order, and then one for each default of another. So an option has the value that it was given, or else its default
-- (value_found); it counts as given in the first case (value_given); and defaults pass their checks (defaults_fine).
use Rattle.std.proofs.Common.{◌≡◌, ◌∙◌, ◌++◌, ◌||◌, Bool, true, false, true≢false, List, [], ◌∷◌, Option, Some, None, IsSome, cond, find, fold, map, option_map, option_and_then, bytes_eq, refl, sym, subst, ap, ap₂, slice_get, if◌then◌else◌, append-nil}
use Rattle.std.specs.{List.list_all, List.list_any, Option.option_map_or, Option.option_or}
use Rattle.std.proofs.{lemmas.Bool.or_parts, lemmas.List.Folds.find-append, lemmas.Slice.Eq.bytes_eq-Decides}
use Rattle.clap.specs.{Facts.explicit_source, Faults.defaults_fault, Faults.given_default_fault, Kinds.Kinds, Kinds.or_else, Takes.is_given, declared.builder.value_parser.Reading.Reading, declared.parser.matches.ValueSource.ValueSource, declared.parser.matches.ValueSource.TheVariants.CommandLine, declared.parser.matches.ValueSource.TheVariants.DefaultValue}
use Rattle.clap.specs.Walk.{Row, Rule, Text, at_row, default_rows, first_of, has_row, is_empty, more_values, reading_by, with_default, with_values, without}
use Rattle.clap.specs.declared.builder.value_parser.Reading.TheVariants as reading
use Rattle.clap.proofs.{SimpleLemmas.is_nil, WalkLemmas.both, WalkLemmas.find-map}
use Rattle.arbiter_laws.specs.PlainArguments.{Given, name_of, value_of, values_in}

-- the row of a value, of which there is none yet
abbrev pub row_with : Text → Reading → ValueSource → List Text → Row
row_with id how s values = record { id = id; values = values; count = None; source = Some s; reading = how }

-- the row of an option that was given once
abbrev pub row_for : Given → Row
row_for g = row_with (name_of g) reading.AsWritten CommandLine (value_of g ∷ [])

-- the rows after one more use of an option
abbrev pub added : Given → List Row → List Row
added g rows =
    with_values (name_of g) reading.AsWritten CommandLine (value_of g ∷ []) (without (name_of g) rows)

-- where no row has the id, `at_row` changes none and puts the rows `missing` at the end
absent : (id : Text) (change : Row → List Row) (missing rows : List Row) → has_row id rows ≡ false
    → at_row id change missing rows ≡ rows ++ missing
absent id change missing [] none = refl
absent id change missing (r ∷ rs) none =
    let parts = or_parts (bytes_eq r.id id) (has_row id rs) none in
    ap₂ (λ (b : Bool) (xs : List Row). if b then change r ++ rs else r ∷ xs) parts.0
    (absent id change missing rs parts.1)

-- one more option, which has no row yet, adds its row at the end
pub added_is : (g : Given) (rows : List Row) → has_row (name_of g) rows ≡ false → added g rows ≡ rows ++ row_for g ∷ []
added_is g rows none =
    let new : List Row → List Row =
    with_values (name_of g) reading.AsWritten CommandLine (value_of g ∷ []) in
    let gone : without (name_of g) rows ≡ rows =
    absent (name_of g) (λ _. []) [] rows none ∙ append-nil rows in
    ap new gone ∙ absent (name_of g) (more_values CommandLine (value_of g ∷ [])) (row_for g ∷ []) rows none

-- ---- defaults

-- the row that a test finds is still found when the default of one rule is added
kept_one : (p : Row → Bool) (id : Text) (how : Reading) (has : Bool) (values : List Text) (rows : List Row) (r : Row)
    → has_row id rows ≡ has → find p rows ≡ Some r
    → find p (if has then rows else default_rows id how values rows) ≡ Some r
kept_one p id how true values rows r none e = e
kept_one p id how false [] rows r none e = e
kept_one p id how false (v ∷ vs) rows r none e =
    let row : Row = row_with id how DefaultValue (v ∷ vs) in
    ap (find p) (absent id (more_values DefaultValue (v ∷ vs)) (row ∷ []) rows none)
    ∙ find-append p rows (row ∷ []) ∙ ap (λ o. option_or o (find p (row ∷ []))) e

-- and when those of all rules are
kept : (p : Row → Bool) (c : List Rule) (rows : List Row) (r : Row) → find p rows ≡ Some r
    → find p (fold with_default rows c) ≡ Some r
kept p [] rows r e = e
kept p (a ∷ c) rows r e =
    kept p c (with_default rows a) r
    (kept_one p a.id (reading_by a) (has_row a.id rows) a.defaults rows r refl e)

-- the first default value of the option with this name
abbrev pub default_in : Text → List Rule → Option Text
default_in name [] = None
default_in name (a ∷ c) =
    if bytes_eq a.id name then option_or (slice_get a.defaults 0) (default_in name c) else default_in name c

-- if no row is found by a test, none passes it
none_any : (p : Row → Bool) (rows : List Row) → find p rows ≡ None → list_any p rows ≡ true → ⊥
none_any p [] e any = true≢false (sym any)
none_any p (r ∷ rs) e any = none_of (p r) (find p rs) e (list_any p rs) any (none_any p rs)
  where
    none_of : (b : Bool) (o : Option Row) → cond b (Some r) o ≡ None → (x : Bool) → (b || x) ≡ true
        → (o ≡ None → x ≡ true → ⊥) → ⊥
    none_of true o f x g rest = absurd (cc)
    none_of false o f x g rest = rest f g

-- the option was not given: its default is there
module _ (name : Text) (a : Rule) (c : List Rule) (rows : List Row) (none : find (λ r. bytes_eq r.id name) rows ≡ None)
    (later : (now : List Row) → find (λ r. bytes_eq r.id name) now ≡ None
    → first_of name (fold with_default now c) ≡ default_in name c) where
  -- the row of a default is the first with this name where it has the name
  new_row : (same : Bool) (v : Text) (vs : List Text) → bytes_eq a.id name ≡ same → has_row a.id rows ≡ false
      → find (λ r. bytes_eq r.id name) (default_rows a.id (reading_by a) (v ∷ vs) rows)
      ≡ cond same (Some (row_with a.id (reading_by a) DefaultValue (v ∷ vs))) None
  new_row same v vs is there =
      let row : Row = row_with a.id (reading_by a) DefaultValue (v ∷ vs) in
      let p : Row → Bool = λ r. bytes_eq r.id name in
      ap (find p) (absent a.id (more_values DefaultValue (v ∷ vs)) (row ∷ []) rows there)
      ∙ find-append p rows (row ∷ [])
      ∙ ap₂ (λ (o : Option Row) (b : Bool). option_or o (cond b (Some row) None)) none is

  -- so the option has the first default of the rule `a`, if that has its name, or else what later rules give it
  default_one : (same has : Bool) (values : List Text) → bytes_eq a.id name ≡ same → has_row a.id rows ≡ has
      → first_of name (fold with_default (if has then rows else default_rows a.id (reading_by a) values rows) c)
      ≡ (if same then option_or (slice_get values 0) (default_in name c) else default_in name c)
  default_one false true values is there = later rows none
  default_one false false [] is there = later rows none
  default_one false false (v ∷ vs) is there =
      later (default_rows a.id (reading_by a) (v ∷ vs) rows) (new_row false v vs is there)
  default_one true true values is there =
      let same : a.id ≡ name = (bytes_eq-Decides a.id name).0 is in
      absurd (none_any (λ r. bytes_eq r.id name) rows none (subst (λ (id : Text). has_row id rows ≡ true) same there))
  default_one true false [] is there = later rows none
  default_one true false (v ∷ vs) is there =
      ap (option_and_then (λ (r : Row). slice_get r.values 0))
      (kept (λ r. bytes_eq r.id name) c (default_rows a.id (reading_by a) (v ∷ vs) rows)
      (row_with a.id (reading_by a) DefaultValue (v ∷ vs)) (new_row true v vs is there))

-- an option without a row has its first default, after the defaults of all rules were added; by induction on the rules
missing : (name : Text) (c : List Rule) (rows : List Row) → find (λ r. bytes_eq r.id name) rows ≡ None
    → first_of name (fold with_default rows c) ≡ default_in name c
missing name [] rows none = ap (option_and_then (λ (r : Row). slice_get r.values 0)) none
missing name (a ∷ c) rows none = default_one name a c rows none (λ now f. missing name c now f) (bytes_eq a.id name)
    (has_row a.id rows) a.defaults refl refl

-- ---- what is found

-- the option `name` among the options given, where the subcommand has the rules `c`
module _ (name : Text) (options : List Given) (c : List Rule) where
  abbrev has_name : Row → Bool
  has_name r = bytes_eq r.id name

  -- its row is found just where the option itself is
  found_row : (o : Option Given) → find (λ g. bytes_eq (name_of g) name) options ≡ o
      → find has_name (map row_for options) ≡ option_map row_for o
  found_row o e = sym (find-map has_name row_for options) ∙ ap (option_map row_for) e

  -- the value found for it, by the option that was given (`o`), if there is one
  found_as : (o : Option Given) → find (λ g. bytes_eq (name_of g) name) options ≡ o
      → first_of name (fold with_default (map row_for options) c)
      ≡ option_or (option_map value_of o) (default_in name c)
  found_as None e = missing name c (map row_for options) (found_row None e)
  found_as (Some g) e = ap (option_and_then (λ (r : Row). slice_get r.values 0))
      (kept has_name c (map row_for options) (row_for g) (found_row (Some g) e))

  -- an option has the value that it was given, or else its default
  pub value_found : first_of name (fold with_default (map row_for options) c)
      ≡ option_or (values_in options name) (default_in name c)
  value_found = found_as (find (λ g. bytes_eq (name_of g) name) options) refl

  -- whether it counts as given, in the same way
  given_as : (o : Option Given) → find (λ g. bytes_eq (name_of g) name) options ≡ o → IsSome (option_map value_of o)
      → is_given name (fold with_default (map row_for options) c) ≡ true
  given_as None e some = absurd (true≢false (sym some))
  given_as (Some g) e some = ap (λ (o : Option Row). option_map_or (λ r. explicit_source r.source) o false)
      (kept has_name c (map row_for options) (row_for g) (found_row (Some g) e))

  -- an option that has a value among those given counts as given
  pub value_given : IsSome (values_in options name) → is_given name (fold with_default (map row_for options) c) ≡ true
  value_given some = given_as (find (λ g. bytes_eq (name_of g) name) options) refl some

-- ---- defaults pass

-- the default values of the option are accepted
abbrev pub is_fine : Rule → Bool
is_fine a = is_empty a.defaults || is_empty (given_default_fault a a.defaults)

-- a default reports no fault if it isn't used, if there is none, or if its check has no fault
fine_one : (has none : Bool) (kinds : Kinds) → (none || is_empty kinds) ≡ true
    → (if has || none then [] else kinds) ≡ []
fine_one true none kinds fine = refl
fine_one false true kinds fine = refl
fine_one false false kinds fine = is_nil kinds fine

-- where the defaults of all rules are accepted, filling them in reports no fault
pub defaults_fine : (c : List Rule) (rows : List Row) → list_all is_fine c ≡ true → defaults_fault rows c ≡ []
unfolding defaults_fault
defaults_fine [] rows fine = refl
defaults_fine (a ∷ c) rows fine =
    let parts = both (is_fine a) (list_all is_fine c) fine in
    ap₂ or_else (fine_one (has_row a.id rows) (is_empty a.defaults) (given_default_fault a a.defaults) parts.0)
    (defaults_fine c (with_default rows a) parts.1)
