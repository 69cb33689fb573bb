-- `clap`'s walk over what a stub plays: each argument is one more value of the positional rule `words`. So what is
-- matched are just these arguments (replies_are), and no fault is reported (replies_pass).
use Rattle.std.proofs.Common.{◌≡◌, ◌∙◌, ◌++◌, Bool, false, List, [], ◌∷◌, Option, Some, None, fold, codes, refl, subst, ap, ap₂, append_assoc, if◌then◌else◌, unwrap_or}
use Rattle.std.specs.{List.AllByRecursion, Option.option_map_or}
use Rattle.clap.specs.Faults.{bundle_fault, check_fault, defaults_fault, flag_word_fault, level_fault, settle_fault, step_fault, turn_fault, walk_fault, word_fault}
use Rattle.clap.specs.{Kinds.Kinds, Kinds.or_else, declared.parser.matches.ValueSource.TheVariants.CommandLine}
use Rattle.clap.specs.Walk.{Held, Row, Step, Text, Waiting, Walk, after_step, all_of, finished, idle, long_or_other, nothing_held, option, positional, rows_after, settled, short_or_plain, trailing, value, walk, walk_from, walked, with_default, with_values, word_met}
use Rattle.clap.specs.declared.builder.value_parser.Reading.TheVariants as reading
use Rattle.arbiter_laws.specs.PlainArguments.{has_hyphen}
use Rattle.arbiter_laws.proofs.{PlainOptions.stub_shape, PlainRows.defaults_fine}
use Rattle.arbiter_laws.proofs.PlainWalk.{held, no_dashes, no_long, no_short}

-- the rows for these words: none without words, or else one row that has them all
abbrev pub words_rows : List Text → List Row
words_rows [] = []
words_rows (x ∷ xs) = record {
  id = codes "words";
  values = x ∷ xs;
  count = None;
  source = Some CommandLine;
  reading = reading.AsWritten;
} ∷ []

-- the walk after the words `before`, which have their row, and the word `last`, which is still pending
abbrev after_one : List Text → Text → Walk
after_one before last = record {
  held = held (words_rows before) (Some (codes "words", last ∷ []));
  waiting = positional;
  position = 1;
  is_trailing = false;
  stopped = None;
}

-- no option waits for a value
abbrev IsFree : Waiting → Type 0
IsFree (option name) = ⊥
IsFree _ = Unit {0}

-- an argument that no hyphen begins is a value, not a flag
value_met : (waiting : Waiting) → IsFree waiting → (text : Text) (h : Held) → has_hyphen text ≡ false
    → word_met stub_shape.rules [] false waiting 1 text h ≡ (h, value)
value_met (option name) free text h plain = absurd free
value_met idle free text h plain = ap₂ (λ (b : Bool) (o : Option (Text × Option Text)).
    if b then (h, trailing 1) else long_or_other stub_shape.rules idle text o h)
    (no_dashes text plain) (no_long text plain)
    ∙ ap (λ (o : Option Text). short_or_plain stub_shape.rules idle text o h) (no_short text plain)
value_met positional free text h plain = ap₂ (λ (b : Bool) (o : Option (Text × Option Text)).
    if b then (h, trailing 1) else long_or_other stub_shape.rules positional text o h)
    (no_dashes text plain) (no_long text plain)
    ∙ ap (λ (o : Option Text). short_or_plain stub_shape.rules positional text o h) (no_short text plain)

-- and it has no fault
value_fault : (waiting : Waiting) → IsFree waiting → (text : Text) (h : Held) → has_hyphen text ≡ false
    → word_fault stub_shape [] false waiting text h ≡ []
value_fault (option name) free text h plain = absurd free
value_fault idle free text h plain = ap₂ (λ (b : Bool) (o : Option (Text × Option Text)).
    if b then [] else flag_word_fault stub_shape.rules false o text h) (no_dashes text plain) (no_long text plain)
    ∙ ap (λ (o : Option Text). option_map_or (λ flags. bundle_fault stub_shape.rules false flags h) o [])
    (no_short text plain)
value_fault positional free text h plain = ap₂ (λ (b : Bool) (o : Option (Text × Option Text)).
    if b then [] else flag_word_fault stub_shape.rules false o text h) (no_dashes text plain) (no_long text plain)
    ∙ ap (λ (o : Option Text). option_map_or (λ flags. bundle_fault stub_shape.rules false flags h) o [])
    (no_short text plain)

-- a pending word becomes the last value of the row
more : (before : List Text) (last : Text)
    → with_values (codes "words") reading.AsWritten CommandLine (last ∷ []) (words_rows before)
    ≡ words_rows (before ++ last ∷ [])
more [] last = refl
more (x ∷ xs) last = refl

-- ---- one argument more

-- the first word is pending after it
first_walked : (text : Text) → has_hyphen text ≡ false
    → walked stub_shape.rules [] (walk_from nothing_held) text ≡ after_one [] text
unfolding walked
first_walked text plain = ap (λ (m : Held × Step). after_step stub_shape.rules text (walk_from nothing_held) m.0 m.1)
    (value_met idle tt text nothing_held plain)

-- and it is reported with no fault; so is each later one (next_passes)
first_passes : (text : Text) → has_hyphen text ≡ false → turn_fault stub_shape [] (walk_from nothing_held) text ≡ []
first_passes text plain = ap₂ (λ (x : Kinds) (m : Held × Step). or_else x (step_fault stub_shape 1 m.0 m.1))
    (value_fault idle tt text nothing_held plain) (value_met idle tt text nothing_held plain)

-- a later word: the one before it joins the row, and this one is pending
next_walked : (before : List Text) (last text : Text) → has_hyphen text ≡ false
    → walked stub_shape.rules [] (after_one before last) text ≡ after_one (before ++ last ∷ []) text
unfolding walked
next_walked before last text plain =
    ap (λ (m : Held × Step). after_step stub_shape.rules text (after_one before last) m.0 m.1)
    (value_met positional tt text (after_one before last).held plain)
    ∙ ap (λ (rows : List Row). record (after_one before last) { held = held rows (Some (codes "words", text ∷ [])) })
    (more before last)

next_passes : (before : List Text) (last text : Text) → has_hyphen text ≡ false
    → turn_fault stub_shape [] (after_one before last) text ≡ []
next_passes before last text plain =
    let h = (after_one before last).held in
    ap₂ (λ (x : Kinds) (m : Held × Step). or_else x (step_fault stub_shape 1 m.0 m.1))
    (value_fault positional tt text h plain) (value_met positional tt text h plain)

-- ---- all of them

-- the walk from `from` over `replies` comes to the row of `all` words, and reports no fault
record Plays (from : Walk) (replies all : List Text) : Type 0 where
  rows : (settled stub_shape.rules (fold (walked stub_shape.rules []) from replies).held).rows ≡ words_rows all
  settles : settle_fault stub_shape.rules false (fold (walked stub_shape.rules []) from replies).held ≡ []
  passes : walk_fault stub_shape [] from replies ≡ []

-- such a walk with one word more at its front
one_more : (from to : Walk) (text : Text) (replies all : List Text) → walked stub_shape.rules [] from text ≡ to
    → turn_fault stub_shape [] from text ≡ [] → Plays to replies all → Plays from (text ∷ replies) all
unfolding walk_fault
one_more from to text replies all is passes plays = record {
  rows = ap (λ (w : Walk). (settled stub_shape.rules (fold (walked stub_shape.rules []) w replies).held).rows) is
      ∙ plays.rows;
  settles = ap (λ (w : Walk). settle_fault stub_shape.rules false (fold (walked stub_shape.rules []) w replies).held) is
      ∙ plays.settles;
  passes = ap₂ (λ (x : Kinds) (w : Walk). or_else x (walk_fault stub_shape [] w replies)) passes is ∙ plays.passes;
}

abbrev ArePlain : List Text → Type 0
ArePlain replies = AllByRecursion (λ reply. has_hyphen reply ≡ false) replies

-- the walk that has begun, over the rest; by induction on it
plays_on : (rest before : List Text) (last : Text) → ArePlain rest → Plays (after_one before last) rest
    (before ++ last ∷ rest)
unfolding walk_fault
plays_on [] before last plain = record { rows = more before last; settles = refl; passes = refl }
plays_on (x ∷ xs) before last plain =
    let later = plays_on xs (before ++ last ∷ []) x plain.1 in
    one_more (after_one before last) (after_one (before ++ last ∷ []) x) x xs (before ++ last ∷ x ∷ xs)
    (next_walked before last x plain.0) (next_passes before last x plain.0)
    (subst (Plays (after_one (before ++ last ∷ []) x) xs) (append_assoc before (last ∷ []) (x ∷ xs)) later)

plays : (replies : List Text) → ArePlain replies → Plays (walk_from nothing_held) replies replies
unfolding walk_fault
plays [] plain = record { rows = refl; settles = refl; passes = refl }
plays (x ∷ xs) plain = one_more (walk_from nothing_held) (after_one [] x) x xs (x ∷ xs) (first_walked x plain.0)
    (first_passes x plain.0) (plays_on xs [] x plain.1)

-- the values of `words` in these rows are the words, also after defaults were added
words_there : (replies : List Text)
    → unwrap_or (all_of (codes "words") (fold with_default (words_rows replies) stub_shape.rules)) [] ≡ replies
words_there [] = refl
words_there (x ∷ xs) = refl

-- what a stub plays is what follows `stub`
pub replies_are : (replies : List Text) → ArePlain replies
    → unwrap_or (all_of (codes "words") (rows_after stub_shape.rules [] replies)) [] ≡ replies
replies_are replies plain =
    ap (λ (rows : List Row). unwrap_or (all_of (codes "words") (fold with_default rows stub_shape.rules)) [])
    (plays replies plain).rows ∙ words_there replies

-- the subcommand `stub` reports no fault for them
pub replies_pass : (replies : List Text) → ArePlain replies
    → level_fault stub_shape [] nothing_held replies false [] ≡ []
replies_pass replies plain =
    let all = plays replies plain in
    let end = (walk stub_shape.rules [] nothing_held replies).held in
    let now = (settled stub_shape.rules end).rows in
    ap₂ (λ (x y : Kinds). or_else x (or_else y (or_else (defaults_fault now stub_shape.rules)
    (check_fault stub_shape (finished stub_shape.rules end) false)))) all.passes all.settles
    ∙ ap (λ (x : Kinds). or_else x (check_fault stub_shape (finished stub_shape.rules end) false))
    (defaults_fine stub_shape.rules now refl)
