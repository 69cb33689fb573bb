-- `clap`'s walk over options that are each given once. Its state (`Held`) has a row for each option so far, and the
-- option whose value is pending, which is settled into the rows when the next option comes. A lemma for one option more
-- (step), for all of them (steps), and for the whole subcommand (takes_options).
use Rattle.std.proofs.Common.{◌≡◌, ◌≢◌, ◌∙◌, ◌<◌, ◌++◌, ◌&&◌, ◌||◌, suc, Bool, true, false, not, List, [], ◌∷◌, length, Option, Some, None, All, AllPairs, fold, flat_map, map, option_and_then, bytes_eq, codes, refl, sym, subst, ap, ap₂, arith, if◌then◌else◌, slice_index_or, append-nil, append_assoc}
use Rattle.std.specs.{List.AllByRecursion, List.list_all, Option.option_map_or}
use Rattle.std.proofs.{lemmas.Bool.false_from_ne_true, lemmas.List.Folds.list_any-append, lemmas.Slice.Eq.bytes_eq-Decides}
use Rattle.clap.specs.Faults.{bundle_fault, check_fault, defaults_fault, flag_word_fault, level_fault, repeat_fault, settle_fault, step_fault, turn_fault, walk_fault, word_fault}
use Rattle.clap.specs.{Kinds.Kinds, Kinds.or_else, Simple.Shape}
use Rattle.clap.specs.Lexer.{long_of, long_of_rest, short_of, short_of_rest, strip_byte}
use Rattle.clap.specs.Walk.{Held, Row, Step, Text, Walk, after_step, finished, has_row, idle, long_or_other, next, nothing_held, option, plain_word, rows_after, settled, settled_rows, short_or_plain, trailing, walk, walk_from, walked, with_default, word_met}
use Rattle.clap.specs.declared.error.kind.ErrorKind.TheVariants as kind
use Rattle.arbiter_laws.specs.PlainArguments.{Given, flag, has_hyphen, name_of, valued, written}
use Rattle.arbiter_laws.proofs.PlainRows.{added, added_is, defaults_fine, is_fine, row_for}

-- what the walk holds: rows, and the pending option with its values so far
abbrev pub held : List Row → Option (Text × List Text) → Held
held rows pending = record { rows = rows; pending = pending; skip = 0 }

-- the walk between two options
abbrev pub between : List Row → Option (Text × List Text) → Walk
between rows pending = walk_from (held rows pending)

-- the walk after an option that waits for its value
abbrev pub awaiting : Text → List Row → Walk
awaiting name rows = record {
  held = held rows (Some (name, []));
  waiting = option name;
  position = 1;
  is_trailing = false;
  stopped = None;
}

-- ---- a text without a hyphen before it

-- such a text is not `--`, not `--name`, and not `-x`
pub no_dashes : (text : Text) → has_hyphen text ≡ false → bytes_eq text (45 ∷ 45 ∷ []) ≡ false
no_dashes [] plain = refl
no_dashes (b ∷ bs) plain = ap (λ (c : Bool). c && bytes_eq bs (45 ∷ [])) plain

pub no_long : (text : Text) → has_hyphen text ≡ false → long_of text ≡ None
no_long [] plain = refl
no_long (b ∷ bs) plain = ap (λ (c : Bool).
    option_and_then long_of_rest (option_and_then (strip_byte 45) (if c then Some bs else None))) plain

pub no_short : (text : Text) → has_hyphen text ≡ false → short_of text ≡ None
no_short [] plain = refl
no_short (b ∷ bs) plain = ap (λ (c : Bool). option_and_then short_of_rest (if c then Some bs else None)) plain

-- ---- what is asked of an option

-- the subcommand `s` takes the option `--name text`. The fields say what the walk does at the name and at the value,
-- for any rows and any pending option
pub record TakesValue (s : Shape) (name text : Text) : Type 0 where
  -- at the name: what is pending is settled, and the walk waits for the value
  pub first : (rows : List Row) (p : Option (Text × List Text))
      → walked s.rules [] (between rows p) (codes "--" ++ name) ≡ awaiting name (settled_rows s.rules p rows)
  -- no fault is reported there but perhaps one of settling
  pub first_fault : (rows : List Row) (p : Option (Text × List Text))
      → turn_fault s [] (between rows p) (codes "--" ++ name)
      ≡ or_else (settle_fault s.rules s.args_override_self (held rows p)) []
  pub plain : has_hyphen text ≡ false
  -- at the value: it is pending then
  pub taken : (rows : List Row) → plain_word s.rules (option name) text (held rows (Some (name, [])))
      ≡ (held rows (Some (name, text ∷ [])), next idle)
  -- settled, it is the option's row; no fault is reported but perhaps that the option is repeated
  pub uses : (rows : List Row) → settled_rows s.rules (Some (name, text ∷ [])) rows ≡ added (valued name text) rows
  pub passes : (rows : List Row) → settle_fault s.rules s.args_override_self (held rows (Some (name, text ∷ [])))
      ≡ or_else (repeat_fault false name rows) []

-- the subcommand `s` takes the flag `--name`: what is pending is settled, and the flag has its row at once. No fault is
-- reported but perhaps one of settling, or that the flag is repeated
pub record IsFlag (s : Shape) (name : Text) : Type 0 where
  pub first : (rows : List Row) (p : Option (Text × List Text))
      → walked s.rules [] (between rows p) (codes "--" ++ name)
      ≡ between (added (flag name) (settled_rows s.rules p rows)) None
  pub first_fault : (rows : List Row) (p : Option (Text × List Text))
      → turn_fault s [] (between rows p) (codes "--" ++ name)
      ≡ or_else (or_else (settle_fault s.rules s.args_override_self (held rows p))
      (or_else (repeat_fault false name (settled_rows s.rules p rows)) [])) []

-- the subcommand takes this option
abbrev pub Known : Shape → Given → Type 0
Known s (valued name text) = TakesValue s name text
Known s (flag name) = IsFlag s name

-- options that pass a test (`IsOf`) by which the subcommand takes them are all taken
pub all_known : (s : Shape) (IsOf : Given → Type 0) (options : List Given) → ((g : Given) → IsOf g → Known s g)
    → AllByRecursion IsOf options → AllByRecursion (Known s) options
all_known s IsOf [] known all = tt
all_known s IsOf (g ∷ gs) known all = (known g all.0, all_known s IsOf gs known all.1)

-- an option that has no row yet is not repeated
no_repeat : (name : Text) (rows : List Row) → has_row name rows ≡ false → or_else (repeat_fault false name rows) [] ≡ []
no_repeat name rows none =
    ap (λ (b : Bool). or_else (if b && not false then kind.ArgumentConflict ∷ [] else []) []) none

-- ---- one option more

-- what the walk holds settles to the rows `all`, without a fault
pub record Ready (s : Shape) (rows : List Row) (pending : Option (Text × List Text)) (all : List Row) : Type 0 where
  pub settles : settled_rows s.rules pending rows ≡ all
  pub passes : settle_fault s.rules s.args_override_self (held rows pending) ≡ []

-- the walk takes `words` from the state `from` to the state `to`, and reports no fault at them, whatever follows
-- (`rest`)
record GoesOn (s : Shape) (from : Walk) (words : List Text) (to : Walk) : Type 0 where
  walks : (rest : List Text) → fold (walked s.rules []) from (words ++ rest) ≡ fold (walked s.rules []) to rest
  passes : (rest : List Text) → walk_fault s [] from (words ++ rest) ≡ walk_fault s [] to rest

-- a walk over one word, and over two, by what it does at each
one_word : (s : Shape) (from to : Walk) (word : Text) → turn_fault s [] from word ≡ []
    → walked s.rules [] from word ≡ to → GoesOn s from (word ∷ []) to
unfolding walk_fault
one_word s from to word passes is = record {
  walks = λ rest. ap (λ (w : Walk). fold (walked s.rules []) w rest) is;
  passes = λ rest. ap₂ (λ (k : Kinds) (w : Walk). or_else k (walk_fault s [] w rest)) passes is;
}

two_words : (s : Shape) (from mid to : Walk) (one two : Text) → GoesOn s from (one ∷ []) mid
    → GoesOn s mid (two ∷ []) to → GoesOn s from (one ∷ two ∷ []) to
two_words s from mid to one two g h = record {
  walks = λ rest. g.walks (two ∷ rest) ∙ h.walks rest;
  passes = λ rest. g.passes (two ∷ rest) ∙ h.passes rest;
}

-- a word that no hyphen begins is the value that is waited for
module _ (s : Shape) (name text : Text) (h : Held) (plain : has_hyphen text ≡ false) where
  value_met : word_met s.rules [] false (option name) 1 text h ≡ plain_word s.rules (option name) text h
  value_met = ap₂ (λ (b : Bool) (o : Option (Text × Option Text)).
      if b then (h, trailing 1) else long_or_other s.rules (option name) text o h)
      (no_dashes text plain) (no_long text plain)
      ∙ ap (λ (o : Option Text). short_or_plain s.rules (option name) text o h) (no_short text plain)

  value_fault : word_fault s [] false (option name) text h ≡ []
  value_fault = ap₂ (λ (b : Bool) (o : Option (Text × Option Text)).
      if b then [] else flag_word_fault s.rules s.args_override_self o text h)
      (no_dashes text plain) (no_long text plain)
      ∙ ap (λ (o : Option Text). option_map_or (λ flags. bundle_fault s.rules s.args_override_self flags h) o [])
      (no_short text plain)

-- a walk that waits for a value takes it
value_word : (s : Shape) (name text : Text) (rows : List Row) → TakesValue s name text
    → GoesOn s (awaiting name rows) (text ∷ []) (between rows (Some (name, text ∷ [])))
unfolding walked
value_word s name text rows k =
    let h : Held = held rows (Some (name, [])) in
    let met = value_met s name text h k.plain ∙ k.taken rows in
    one_word s (awaiting name rows) (between rows (Some (name, text ∷ []))) text
    (ap₂ (λ (x : Kinds) (m : Held × Step). or_else x (step_fault s 1 m.0 m.1)) (value_fault s name text h k.plain) met)
    (ap (λ (m : Held × Step). after_step s.rules text (awaiting name rows) m.0 m.1) met)

-- the walk over `words` comes to a state between options that settles to the rows `all`, and reports no fault
pub record Ends (s : Shape) (from : Walk) (words : List Text) (all : List Row) : Type 0 where
  pub rows : List Row
  pub pending : Option (Text × List Text)
  pub ready : Ready s rows pending all
  pub walks : fold (walked s.rules []) from words ≡ between rows pending
  pub passes : walk_fault s [] from words ≡ []

-- the same of the words of one option, whatever follows them
record Steps (s : Shape) (from : Walk) (words : List Text) (all : List Row) : Type 0 where
  rows : List Row
  pending : Option (Text × List Text)
  ready : Ready s rows pending all
  goes : GoesOn s from words (between rows pending)

-- one option more: the walk is between options, what it holds settles to `all`, and no row of these is the option's.
-- Then it takes the option's words, and its row comes last
step : (s : Shape) (g : Given) (rows : List Row) (p : Option (Text × List Text)) (all : List Row) → Known s g
    → Ready s rows p all → has_row (name_of g) all ≡ false
    → Steps s (between rows p) (written g) (all ++ row_for g ∷ [])
step s (valued name text) rows p all k ready none = record {
  rows = all;
  pending = Some (name, text ∷ []);
  ready = record {
    settles = k.uses all ∙ added_is (valued name text) all none;
    passes = k.passes all ∙ no_repeat name all none;
  };
  goes = two_words s (between rows p) (awaiting name all) (between all (Some (name, text ∷ [])))
      (codes "--" ++ name) text
      (one_word s (between rows p) (awaiting name all) (codes "--" ++ name)
      (k.first_fault rows p ∙ ap (λ (x : Kinds). or_else x []) ready.passes)
      (k.first rows p ∙ ap (awaiting name) ready.settles))
      (value_word s name text all k);
}
step s (flag name) rows p all k ready none = record {
  rows = all ++ row_for (flag name) ∷ [];
  pending = None;
  ready = record { settles = refl; passes = refl };
  goes = one_word s (between rows p) (between (all ++ row_for (flag name) ∷ []) None) (codes "--" ++ name)
      (k.first_fault rows p
      ∙ ap₂ (λ (x : Kinds) (now : List Row). or_else (or_else x (or_else (repeat_fault false name now) [])) [])
      ready.passes ready.settles
      ∙ ap (λ (x : Kinds). or_else x []) (no_repeat name all none))
      (k.first rows p ∙ ap (λ (now : List Row). between (added (flag name) now) None) ready.settles
      ∙ ap (λ (now : List Row). between now None) (added_is (flag name) all none));
}

-- ---- all options

-- no two of the options have the same name
abbrev pub AreApart : List Given → Type 0
AreApart options = AllPairs (λ g h. name_of g ≢ name_of h) options

-- none of the options has a row yet
abbrev AreFresh : List Given → List Row → Type 0
AreFresh options rows = All (λ g. has_row (name_of g) rows ≡ false) options

-- the later options have no row after the first one has its own
still_fresh : (g : Given) (gs : List Given) (rows : List Row) → AreApart (g ∷ gs) → AreFresh (g ∷ gs) rows
    → AreFresh gs (rows ++ row_for g ∷ [])
still_fresh g gs rows apart fresh k d lt =
    let later : suc k < length (g ∷ gs) = omega arith in
    let before : 0 < suc k = omega arith in
    let name = name_of (slice_index_or gs k d) in
    let other : bytes_eq (name_of g) name ≡ false =
    false_from_ne_true (bytes_eq (name_of g) name)
    (λ same. apart 0 (suc k) d before later ((bytes_eq-Decides (name_of g) name).0 same)) in
    list_any-append (λ (r : Row). bytes_eq r.id name) rows (row_for g ∷ [])
    ∙ ap₂ (λ (a b : Bool). a || (b || false)) (fresh (suc k) d later) other

-- all options, one after another: each adds its row at the end; by induction on the options
pub steps : (s : Shape) (options : List Given) (rows : List Row) (p : Option (Text × List Text)) (all : List Row)
    → AllByRecursion (Known s) options → AreApart options → AreFresh options all → Ready s rows p all
    → Ends s (between rows p) (flat_map written options) (all ++ map row_for options)
unfolding walk_fault
steps s [] rows p all known apart fresh ready = record {
  rows = rows;
  pending = p;
  ready = subst (λ (x : List Row). Ready s rows p x) (sym (append-nil all)) ready;
  walks = refl;
  passes = refl;
}
steps s (g ∷ gs) rows p all known apart fresh ready =
    let here : 0 < length (g ∷ gs) = omega arith in
    let one = step s g rows p all known.0 ready (fresh 0 g here) in
    let rest = steps s gs one.rows one.pending (all ++ row_for g ∷ [])
    known.1 (λ i j d less lt. apart (suc i) (suc j) d (omega arith) (omega arith))
    (still_fresh g gs all apart fresh) one.ready in
    record {
      rows = rest.rows;
      pending = rest.pending;
      ready = subst (λ (x : List Row). Ready s rest.rows rest.pending x)
          (append_assoc all (row_for g ∷ []) (map row_for gs)) rest.ready;
      walks = one.goes.walks (flat_map written gs) ∙ rest.walks;
      passes = one.goes.passes (flat_map written gs) ∙ rest.passes;
    }

-- ---- a subcommand

-- the rows of all rules of the subcommand, where these options were given
abbrev pub rows_of_given : Shape → List Given → List Row
rows_of_given s options = fold with_default (map row_for options) s.rules

-- the subcommand takes these options: the rows are as in `rows_of_given`, and there is no fault
pub record TakesOptions (s : Shape) (options : List Given) : Type 0 where
  pub rows : rows_after s.rules [] (flat_map written options) ≡ rows_of_given s options
  pub passes : level_fault s [] nothing_held (flat_map written options) false [] ≡ []

-- the subcommand takes options that it knows, each given once, if its defaults are accepted and the last check has no
-- fault
pub takes_options : (s : Shape) (options : List Given) → AllByRecursion (Known s) options → AreApart options
    → list_all is_fine s.rules ≡ true → check_fault s (rows_of_given s options) false ≡ [] → TakesOptions s options
takes_options s options known apart fine check =
    let words = flat_map written options in
    let end = steps s options [] None [] known apart (λ k d lt. refl) (record { settles = refl; passes = refl }) in
    let stands : (walk s.rules [] nothing_held words).held ≡ held end.rows end.pending =
    ap (λ (w : Walk). w.held) end.walks in
    record {
      rows = ap (finished s.rules) stands ∙ ap (λ (rows : List Row). fold with_default rows s.rules) end.ready.settles;
      passes = ap₂ (λ (x : Kinds) (h : Held). or_else x (or_else []
          (or_else (settle_fault s.rules s.args_override_self h)
          (or_else (defaults_fault (settled s.rules h).rows s.rules) (check_fault s (finished s.rules h) false)))))
          end.passes stands
          ∙ ap₂ (λ (x : Kinds) (rows : List Row). or_else x
          (or_else (defaults_fault rows s.rules) (check_fault s (fold with_default rows s.rules) false)))
          end.ready.passes end.ready.settles
          ∙ ap₂ or_else (defaults_fine s.rules (map row_for options) fine) check;
    }
