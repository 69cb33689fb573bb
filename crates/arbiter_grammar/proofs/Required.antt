-- If `clap` reports no fault, what it matched is complete (required_there): a match has its two engines, and the
-- numbers are in their ranges. For this each row has a value, and its values fit (HasValues): true before the walk over
-- the arguments, and kept by each of its steps that reports no fault. The lemmas named .._kept say so, each for a
-- function of `clap`'s walk.
use Rattle.std.proofs.Common.{◌≡◌, ◌<◌, ◌++◌, ◌&&◌, ◌||◌, ℕ, zero, suc, Bool, true, false, List, [], ◌∷◌, length, Option, Some, None, is_some, refl, sym, subst, ap, arith, true≢false, nat_lt, IfSome, codes, lit<, option_map, inl, inr, ◌∙◌, ◌⊎◌, unwrap_or, bytes_eq, chars, find, fold, slice_get, option_and_then, if◌then◌else◌, cond, ◌==◌, drop, encode_utf8}
use Rattle.std.specs.{List.list_all, Option.option_map_or}
use Rattle.clap.specs.{Lexer.long_of, Lexer.short_of, Values.is_request, Facts.explicit_source, Facts.unwrap_or_range, Kinds.Kinds, Kinds.check_kinds, Kinds.or_else, Takes.is_given, Takes.value_passes, declared.builder.value_parser.Reading.Reading, declared.builder.action.ArgAction.ArgAction, declared.error.kind.ErrorKind.ErrorKind, declared.parser.matches.ValueSource.ValueSource, declared.parser.matches.ValueSource.TheVariants.CommandLine, declared.parser.matches.ValueSource.TheVariants.DefaultValue, ValueTests.is_unsigned_in}
use Rattle.clap.specs.Walk.{Held, Names, Outcome, Row, Rule, Step, Text, Waiting, Walk, action_of, after_flag, after_step, arg_by_id, arg_by_index, arg_by_long, arg_by_short, at_row, attached_value, bundle, bundle_met, bundle_step, default_rows, done, first_of, flag_met, idle, is_pending, long_met, long_or_other, more_values, next, nothing_held, option, option_met, option_word, plain, plain_word, positional, reacted, reading_by, refused, rows_after, settled, settled_rows, short_met, short_or_plain, stop_after, subcommand, subcommand_met, subcommand_or_other, takes_several, takes_values, to_positional, trailing, used, used_as, used_by_id, value, values_or_missing, waits, walk, walk_from, walked, walked_from, with_default, with_values, without, word_met, has_row, answers_to}
use Rattle.clap.specs.Simple.{App, Shape, argument_words, built, entered, label_of, names_of, rows_at, subcommand_of}
use Rattle.clap.specs.Faults.{action_fault, bundle_fault, bundle_step_fault, check_fault, entered_fault, fault_of, flag_word_fault, flags_fault, level_fault, long_fault, option_fault, other_fault, positional_fault, react_fault, settle_fault, short_fault, step_fault, turn_fault, use_fault, walk_fault, word_fault, values_fault}
use Rattle.clap.specs.declared.builder.action.ArgAction.TheVariants.{Set, Append, SetTrue, SetFalse, Count, Help, HelpShort, HelpLong, Version}
use Rattle.clap.specs.declared.error.kind.ErrorKind.TheVariants as kind
use Rattle.clap.proofs.WalkLemmas.{both}
use Rattle.arbiter_grammar.specs.Grammar.{IsCommand, IsComplete, OptionNames, arbiter_app}
use Rattle.std.proofs.{lemmas.Slice.Eq.bytes_eq-Decides, lemmas.Bool.and_from, lemmas.Bool.or_parts, lemmas.Bool.not-false}

-- the text may be a value of the argument with this id: it is in range where that takes a number
abbrev pub fits : Text → Text → Bool
fits id t = if bytes_eq id (codes "games") then is_unsigned_in 1 1000 t
    else if bytes_eq id (codes "reply-timeout") then is_unsigned_in 1 999 t else true

-- the texts may be values of the argument with this id
abbrev Fit : Text → List Text → Type 0
Fit id ts = list_all (fits id) ts ≡ true

-- the row has a value, and each may be one of its argument
abbrev HasValue : Row → Type 0
HasValue r = (0 < length r.values) × Fit r.id r.values

-- so has each of the rows
abbrev HasValues : List Row → Type 0
HasValues [] = Unit {0}
HasValues (r ∷ rs) = HasValue r × HasValues rs

-- a use of the argument has a value, or asks for help, or a value stands for one that has none
abbrev pub asks : Rule → Bool
asks a = (nat_lt 0 (unwrap_or_range a.range).start_inclusive || is_request (action_of a)) || nat_lt 0 (length a.missing)

-- what the lemmas need of a rule: a use of it leaves a value or fails (`asks`), each text that passes its check fits,
-- and so do its defaults and the texts that stand for a missing value
abbrev Asks : Rule → Type 0
Asks a = (asks a ≡ true) × ((t : Text) → value_passes a t ≡ true → fits a.id t ≡ true) × Fit a.id a.defaults
    × Fit a.id a.missing

abbrev AllAsk : List Rule → Type 0
AllAsk [] = Unit {0}
AllAsk (a ∷ c) = Asks a × AllAsk c

-- a list of faults with a fault in it is not empty
some_kind : (k : ErrorKind) (ks : Kinds) → (k ∷ ks) ≡ [] → ⊥
some_kind k ks e = let bad : suc (length ks) ≡ 0 = ap length e in absurd (omega arith)

-- `or_else a b` has no fault: then neither has
no_kinds : (a b : Kinds) → or_else a b ≡ [] → (a ≡ []) × (b ≡ [])
no_kinds [] b e = (refl, e)
no_kinds (k ∷ ks) b e = absurd (some_kind k ks e)

-- a test that is true reports the fault `x`
first_not : (b : Bool) (x : ErrorKind) (rest : Kinds) → b ≡ true → (if b then x ∷ [] else rest) ≡ [] → ⊥
first_not true x rest e none = some_kind x [] none
first_not false x rest e none = true≢false (sym e)

some_is : (x y : Text) → Some x ≡ Some y → x ≡ y
some_is x y e = ap (λ (o : Option Text). unwrap_or o x) e

-- ---- rows

values-append : (xs ys : List Row) → HasValues xs → HasValues ys → HasValues (xs ++ ys)
values-append [] ys h k = k
values-append (x ∷ xs) ys h k = (h.0, values-append xs ys h.1 k)

choice : (b : Bool) (xs ys : List Row) → HasValues xs → HasValues ys → HasValues (if b then xs else ys)
choice true xs ys h k = h
choice false xs ys h k = k

all-append : (p : Text → Bool) (xs ys : List Text) → list_all p xs ≡ true → list_all p ys ≡ true
    → list_all p (xs ++ ys) ≡ true
all-append p [] ys h k = k
all-append p (x ∷ xs) ys h k = and_from (p x) _ (both (p x) _ h).0 (all-append p xs ys (both (p x) _ h).1 k)

same_turned : (a b : Text) → bytes_eq a b ≡ true → bytes_eq b a ≡ true
same_turned a b e = (bytes_eq-Decides b a).1 (sym ((bytes_eq-Decides a b).0 e))

-- texts that fit an id also fit an equal one
fit_same : (a b : Text) (ts : List Text) → bytes_eq a b ≡ true → Fit a ts → Fit b ts
fit_same a b ts e h = subst (λ id. Fit id ts) ((bytes_eq-Decides a b).0 e) h

at_choice : (b : Bool) (xs ys : List Row) → (b ≡ true → HasValues xs) → HasValues ys → HasValues (if b then xs else ys)
at_choice true xs ys h k = h refl
at_choice false xs ys h k = k

-- a change of the row of an id keeps `HasValues`, if the changed row and the one put in for a missing row have values
at_row_values : (id : Text) (change : Row → List Row) (missing : List Row)
    → ((r : Row) → bytes_eq r.id id ≡ true → HasValue r → HasValues (change r)) → HasValues missing
    → (rows : List Row) → HasValues rows → HasValues (at_row id change missing rows)
at_row_values id change missing c m [] h = m
at_row_values id change missing c m (r ∷ rs) h =
    at_choice (bytes_eq r.id id) (change r ++ rs) (r ∷ at_row id change missing rs)
    (λ e. values-append (change r) rs (c r e h.0) h.1) (h.0, at_row_values id change missing c m rs h.1)

longer : (xs ys : List Text) → 0 < length xs → 0 < length (xs ++ ys)
longer [] ys lt = absurd (omega arith)
longer (x ∷ xs) ys lt = omega arith

-- values are added to the row of an id, or make a new row; they fit, so `HasValues` is kept
with_values_kept : (id : Text) (how : Reading) (s : ValueSource) (v : Text) (vs : List Text) (rows : List Row)
    → Fit id (v ∷ vs) → HasValues rows
    → HasValues (with_values id how s (v ∷ vs) rows)
with_values_kept id how s v vs rows fit h =
    let made : Row = record { id = id; values = v ∷ vs; count = None; source = Some s; reading = how } in
    let some : 0 < suc (length vs) = omega arith in
    at_row_values id (more_values s (v ∷ vs)) (made ∷ [])
    (λ r e k. (
      (
        longer r.values (v ∷ vs) k.0,
        all-append (fits r.id) r.values (v ∷ vs) k.1 (fit_same id r.id (v ∷ vs) (same_turned r.id id e) fit),
      ),
      tt,
    ))
    ((some, fit), tt) rows h

without_kept : (id : Text) (rows : List Row) → HasValues rows → HasValues (without id rows)
without_kept id rows h = at_row_values id (λ _. []) [] (λ r e k. tt) tt rows h

used_as_kept : (x : ArgAction) (id : Text) (how : Reading) (v : Text) (vs : List Text) (rows : List Row)
    → Fit id (v ∷ vs) → HasValues rows
    → HasValues (used_as x id how (v ∷ vs) rows)
used_as_kept Set id how v vs rows g h = with_values_kept id how CommandLine v vs (without id rows) g
    (without_kept id rows h)
used_as_kept SetTrue id how v vs rows g h = with_values_kept id how CommandLine v vs (without id rows) g
    (without_kept id rows h)
used_as_kept SetFalse id how v vs rows g h = with_values_kept id how CommandLine v vs (without id rows) g
    (without_kept id rows h)
used_as_kept Append id how v vs rows g h = with_values_kept id how CommandLine v vs rows g h
used_as_kept Count id how v vs rows g h = with_values_kept id how CommandLine v vs (without id rows) g
    (without_kept id rows h)
used_as_kept _ id how v vs rows g h = h

-- ---- one use

-- a use that asks for help or the version is reported as a fault
requests_fail : (x : ArgAction) (again : Bool) (a : Rule) (values : List Text) (rows : List Row) → is_request x ≡ true
    → action_fault x again a values rows ≡ [] → ⊥
requests_fail Help again a values rows e none = some_kind kind.DisplayHelp [] none
requests_fail HelpShort again a values rows e none = some_kind kind.DisplayHelp [] none
requests_fail HelpLong again a values rows e none = some_kind kind.DisplayHelp [] none
requests_fail Version again a values rows e none = some_kind kind.DisplayVersion [] none
requests_fail _ again a values rows e none = true≢false (sym e)

-- a rule that needs a value, or asks for a text, reports a fault if it is used without one
no_value : (b : Bool) (again : Bool) (a : Rule) (rows : List Row) → nat_lt 0 (unwrap_or_range a.range).start_inclusive
    ≡ b → (b || is_request (action_of a)) ≡ true
    → use_fault again a [] rows ≡ [] → ⊥
no_value true again a rows is e none =
    first_not (nat_lt 0 (unwrap_or_range a.range).start_inclusive && 0 == 0) _ _ (ap (λ c. c && (0 == 0)) is)
    (no_kinds _ _ none).0
no_value false again a rows is e none =
    requests_fail (action_of a) again a (values_or_missing a []) rows e (no_kinds _ _ none).1

accepted : (b : Bool) (k : ErrorKind) → (if b then [] else k ∷ []) ≡ [] → b ≡ true
accepted true k e = refl
accepted false k e = absurd (some_kind k [] e)

-- values without a fault pass the rule's check, each of them
all_pass : (a : Rule) (vs : List Text) → values_fault a vs ≡ [] → list_all (value_passes a) vs ≡ true
all_pass a [] e = refl
all_pass a (v ∷ vs) e = and_from (value_passes a v) _ (accepted (value_passes a v) _ (no_kinds _ _ e).0)
    (all_pass a vs (no_kinds _ _ e).1)

all_pass_too : (p q : Text → Bool) (vs : List Text) → ((t : Text) → p t ≡ true → q t ≡ true) → list_all p vs ≡ true
    → list_all q vs ≡ true
all_pass_too p q [] too e = refl
all_pass_too p q (v ∷ vs) too e =
    and_from (q v) _ (too v (both (p v) _ e).0) (all_pass_too p q vs too (both (p v) _ e).1)

-- the values of a use that reports no fault were checked, unless it asks for help or the version
checked : (x : ArgAction) (again : Bool) (a : Rule) (v : Text) (vs : List Text) (rows : List Row)
    → action_fault x again a (v ∷ vs) rows ≡ [] → (values_fault a (v ∷ vs) ≡ []) ⊎ (is_request x ≡ true)
checked Set again a v vs rows e = inl (no_kinds _ _ e).1
checked SetTrue again a v vs rows e = inl (no_kinds _ _ e).1
checked SetFalse again a v vs rows e = inl (no_kinds _ _ e).1
checked Append again a v vs rows e = inl e
checked Count again a v vs rows e = inl e
checked _ again a v vs rows e = inr refl

-- so the values of such a use fit
fit_of_use : (again : Bool) (a : Rule) (v : Text) (vs : List Text) (rows : List Row) → Asks a
    → action_fault (action_of a) again a (v ∷ vs) rows ≡ [] → Fit a.id (v ∷ vs)
fit_of_use again a v vs rows asks e = elim (checked (action_of a) again a v vs rows e) [
  | inl ok ↦ all_pass_too (value_passes a) (fits a.id) (v ∷ vs) asks.1 (all_pass a (v ∷ vs) ok)
  | inr bad ↦ absurd (requests_fail (action_of a) again a (v ∷ vs) rows bad e)
]

the_first : (a b : Bool) → (a || b) ≡ true → b ≡ false → a ≡ true
the_first true b e f = refl
the_first false b e f = absurd (true≢false (sym e ∙ f))

-- a use without a value, with no fault: the texts `ms` stand for the value, and there is one
used_missing : (again : Bool) (a : Rule) (rows : List Row) → Asks a → (ms : List Text) → a.missing ≡ ms
    → use_fault again a [] rows ≡ [] → HasValues rows
    → HasValues (used_as (action_of a) a.id (reading_by a) ms rows)
used_missing again a rows asks [] is none h =
    let first = the_first (nat_lt 0 (unwrap_or_range a.range).start_inclusive || is_request (action_of a))
    (nat_lt 0 (length a.missing)) asks.0 (ap (λ (ms : List Text). nat_lt 0 (length ms)) is) in
    absurd (no_value (nat_lt 0 (unwrap_or_range a.range).start_inclusive) again a rows refl first none)
used_missing again a rows asks (m ∷ ms) is none h =
    used_as_kept (action_of a) a.id (reading_by a) m ms rows (sym (ap (list_all (fits a.id)) is) ∙ asks.3) h

-- a use of a rule that reports no fault
used_kept : (again : Bool) (a : Rule) (values : List Text) (rows : List Row) → Asks a
    → use_fault again a values rows ≡ [] → HasValues rows
    → HasValues (used a values rows)
used_kept again a [] rows asks none h = used_missing again a rows asks a.missing refl none h
used_kept again a (v ∷ vs) rows asks none h =
    used_as_kept (action_of a) a.id (reading_by a) v vs rows (fit_of_use again a v vs rows asks (no_kinds _ _ none).1) h

-- the rule that is found among rules of which each is as `Asks` says, is so, too
found : (b : Bool) (a : Rule) (o : Option Rule) → Asks a → IfSome o Asks → IfSome (cond b (Some a) o) Asks
found true a o h k = h
found false a o h k = k

find_asks : (p : Rule → Bool) (c : List Rule) → AllAsk c → IfSome (find p c) Asks
find_asks p [] e = tt
find_asks p (a ∷ c) e = found (p a) a (find p c) e.0 (find_asks p c e.1)

settle_arg : (again : Bool) (values : List Text) (rows : List Row) (o : Option Rule) → IfSome o Asks
    → option_map_or (λ a. use_fault again a values rows) o [] ≡ [] → HasValues rows
    → HasValues (used_by_id o values rows)
settle_arg again values rows None s none h = h
settle_arg again values rows (Some a) s none h = used_kept again a values rows s none h

-- the steps of the walk by the rules `c`, from inside to outside: an option's use, a flag word, an argument
module _ (c : List Rule) (again : Bool) (all : AllAsk c) where
  settle_pending : (rows : List Row) (p : Option (Text × List Text))
      → option_map_or (λ p. option_map_or (λ a. use_fault again a p.1 rows) (arg_by_id c p.0) []) p [] ≡ []
      → HasValues rows → HasValues (settled_rows c p rows)
  settle_pending rows None none h = h
  settle_pending rows (Some p) none h = settle_arg again p.1 rows (arg_by_id c p.0) (find_asks _ c all) none h

  settle_kept : (h : Held) → settle_fault c again h ≡ [] → HasValues h.rows → HasValues (settled c h).rows
  settle_kept h none v = settle_pending h.rows h.pending none v

  react_kept : (a : Rule) (values : List Text) (h : Held) → Asks a → react_fault c again a values h ≡ []
      → HasValues h.rows
      → HasValues (reacted c a values h).rows
  react_kept a values h asks none v =
      used_kept again a values (settled c h).rows asks (no_kinds _ _ none).1 (settle_kept h (no_kinds _ _ none).0 v)

  option_kept : (a : Rule) (v : Option Text) (h : Held) → Asks a → option_fault c again a v h ≡ [] → HasValues h.rows
      → HasValues (option_met c a v h).0.rows
  option_kept a (Some v) h asks none k = react_kept a (v ∷ []) h asks none k
  option_kept a None h asks none k = settle_kept h none k

  flag_kept : (a : Rule) (v : Option Text) (h : Held) → Asks a
      → (if is_some v then kind.TooManyValues ∷ [] else react_fault c again a [] h) ≡ []
      → HasValues h.rows → HasValues (flag_met c a v h).0.rows
  flag_kept a (Some v) h asks none k = k
  flag_kept a None h asks none k = react_kept a [] h asks none k

  long_arg : (b : Bool) (a : Rule) (v : Option Text) (h : Held) → Asks a
      → (if b then option_fault c again a v h else
      (if is_some v then kind.TooManyValues ∷ [] else react_fault c again a [] h)) ≡ []
      → HasValues h.rows → HasValues (if b then option_met c a v h else flag_met c a v h).0.rows
  long_arg true a v h asks none k = option_kept a v h asks none k
  long_arg false a v h asks none k = flag_kept a v h asks none k

  long_kept : (o : Option Rule) (v : Option Text) (h : Held) → IfSome o Asks → long_fault c again o v h ≡ []
      → HasValues h.rows
      → HasValues (long_met c o v h).0.rows
  long_kept None v h s none k = k
  long_kept (Some a) v h s none k = long_arg (takes_values a) a v h s none k

  short_arg : (b : Bool) (a : Rule) (rest : Text) (h : Held) (nf : Held → Kinds) (nm : Held → Held × Outcome)
      → ((g : Held) → nf g ≡ [] → HasValues g.rows → HasValues (nm g).0.rows) → Asks a
      → (if b then option_fault c again a (attached_value rest) h else
      or_else (react_fault c again a [] h) (nf (reacted c a [] h))) ≡ []
      → HasValues h.rows → HasValues
      (if b then option_met c a (attached_value rest) h else nm (reacted c a [] h)).0.rows
  short_arg true a rest h nf nm go asks none k = option_kept a (attached_value rest) h asks none k
  short_arg false a rest h nf nm go asks none k =
      go (reacted c a [] h) (no_kinds _ _ none).1 (react_kept a [] h asks (no_kinds _ _ none).0 k)

  short_kept : (o : Option Rule) (rest : Text) (h : Held) (nf : Held → Kinds) (nm : Held → Held × Outcome)
      → ((g : Held) → nf g ≡ [] → HasValues g.rows → HasValues (nm g).0.rows) → IfSome o Asks
      → short_fault c again o rest h nf ≡ [] → HasValues h.rows → HasValues (short_met c o rest h nm).0.rows
  short_kept None rest h nf nm go s none k = k
  short_kept (Some a) rest h nf nm go s none k = short_arg (takes_values a) a rest h nf nm go s none k

  bundle_step_kept : (x : Option ℕ) (flags : Text) (skip : ℕ) (so_far : Outcome) (h : Held)
      (nf : Text → ℕ → Held → Kinds)
      (nm : Text → ℕ → Outcome → Held → Held × Outcome)
      → ((f : Text) (s : ℕ) (o : Outcome) (g : Held) → nf f s g ≡ [] → HasValues g.rows → HasValues (nm f s o g).0.rows)
      → bundle_step_fault c again x flags skip h nf ≡ [] → HasValues h.rows
      → HasValues (bundle_step c x flags skip so_far h nm).0.rows
  bundle_step_kept None flags skip so_far h nf nm go none k = k
  bundle_step_kept (Some x) flags zero so_far h nf nm go none k =
      let rest = drop (length (encode_utf8 x)) flags in
      short_kept (arg_by_short c x) rest h (nf rest 0) (nm rest 0 done) (go rest 0 done) (find_asks _ c all) none k
  bundle_step_kept (Some x) flags (suc skip) so_far h nf nm go none k =
      go (drop (length (encode_utf8 x)) flags) skip so_far h none k

  -- short flags in one word, as `-ab`; `k` is the most characters that are looked at
  bundle_kept : (k : ℕ) (flags : Text) (skip : ℕ) (so_far : Outcome) (h : Held)
      → flags_fault c again k flags skip h ≡ []
      → HasValues h.rows → HasValues (bundle_met c k flags skip so_far h).0.rows
  unfolding flags_fault bundle_met
  bundle_kept zero flags skip so_far h none v = v
  bundle_kept (suc k) flags skip so_far h none v =
      bundle_step_kept (slice_get (chars flags) 0) flags skip so_far h (flags_fault c again k) (bundle_met c k)
      (λ f s o g n w. bundle_kept k f s o g n w) none v

  -- ---- one argument

  option_word_kept : (o : Option Rule) (id word : Text) (h : Held) → HasValues h.rows
      → HasValues (option_word o id word h).0.rows
  option_word_kept None id word h v = v
  option_word_kept (Some a) id word h v = v

  plain_word_kept : (waiting : Waiting) (word : Text) (h : Held) → HasValues h.rows
      → HasValues (plain_word c waiting word h).0.rows
  plain_word_kept (option id) word h v = option_word_kept (arg_by_id c id) id word h v
  plain_word_kept idle word h v = v
  plain_word_kept positional word h v = v

  after_flag_kept : (waiting : Waiting) (word : Text) (h : Held) (o : Outcome) → HasValues h.rows
      → HasValues (after_flag c waiting word h o).0.rows
  after_flag_kept waiting word h done v = v
  after_flag_kept waiting word h (waits id) v = v
  after_flag_kept waiting word h plain v = plain_word_kept waiting word h v
  after_flag_kept waiting word h refused v = plain_word_kept waiting word h v

  short_or_plain_kept : (waiting : Waiting) (word : Text) (o : Option Text) (h : Held)
      → option_map_or (λ flags. bundle_fault c again flags h) o [] ≡ [] → HasValues h.rows
      → HasValues (short_or_plain c waiting word o h).0.rows
  short_or_plain_kept waiting word (Some flags) h none v =
      after_flag_kept waiting word (bundle c flags h).0 (bundle c flags h).1
      (bundle_kept (length flags) flags h.skip plain (record h { skip = 0 }) none v)
  short_or_plain_kept waiting word None h none v = plain_word_kept waiting word h v

  long_or_other_kept : (waiting : Waiting) (word : Text) (o : Option (Text × Option Text)) (h : Held)
      → flag_word_fault c again o word h ≡ [] → HasValues h.rows → HasValues (long_or_other c waiting word o h).0.rows
  long_or_other_kept waiting word (Some p) h none v =
      after_flag_kept waiting word (long_met c (arg_by_long c p.0) p.1 h).0 (long_met c (arg_by_long c p.0) p.1 h).1
      (long_kept (arg_by_long c p.0) p.1 h (find_asks _ c all) none v)
  long_or_other_kept waiting word None h none v = short_or_plain_kept waiting word (short_of word) h none v

  other_word : (b : Bool) (waiting : Waiting) (position : ℕ) (word : Text) (h : Held)
      → (if b then [] else flag_word_fault c again (long_of word) word h) ≡ [] → HasValues h.rows
      → HasValues (if b then (h, trailing position) else long_or_other c waiting word (long_of word) h).0.rows
  other_word true waiting position word h none v = v
  other_word false waiting position word h none v = long_or_other_kept waiting word (long_of word) h none v

  positional_word : (b : Bool) (h : Held) → (if b then [] else settle_fault c again h) ≡ [] → HasValues h.rows
      → HasValues (if b then h else settled c h).rows
  positional_word true h none v = v
  positional_word false h none v = settle_kept h none v

-- the walk over the arguments of a command `s`
module _ (s : Shape) (names : Names) (all : AllAsk s.rules) where
  other_kept : (o : Option Text) (waiting : Waiting) (position : ℕ) (word : Text) (h : Held)
      → other_fault s o word h ≡ []
      → HasValues h.rows → HasValues (subcommand_or_other s.rules o waiting position word h).0.rows
  other_kept (Some name) waiting position word h none v = v
  other_kept None waiting position word h none v =
      other_word s.rules s.args_override_self all (bytes_eq word (45 ∷ 45 ∷ [])) waiting position word h none v

  word_kept : (b : Bool) (waiting : Waiting) (position : ℕ) (word : Text) (h : Held)
      → word_fault s names b waiting word h ≡ []
      → HasValues h.rows → HasValues (word_met s.rules names b waiting position word h).0.rows
  word_kept true waiting position word h none v = v
  word_kept false waiting position word h none v = other_kept (subcommand_met names waiting word) waiting position word
      h none v

  to_positional_kept : (o : Option Rule) (word : Text) (w : Walk) (h : Held)
      → option_map_or (λ a. positional_fault s.rules s.args_override_self a h) o [] ≡ [] → HasValues h.rows
      → HasValues (to_positional s.rules o word w h).held.rows
  to_positional_kept None word w h none v = v
  to_positional_kept (Some a) word w h none v =
      positional_word s.rules s.args_override_self all (is_pending a h.pending && takes_several a) h none v

  -- no fault of a positional, whatever `stray` would be reported for want of one
  value_fault : (o : Option Rule) (h : Held) (stray : Kinds)
      → option_map_or (λ a. positional_fault s.rules s.args_override_self a h) o stray ≡ []
      → option_map_or (λ a. positional_fault s.rules s.args_override_self a h) o [] ≡ []
  value_fault None h stray none = refl
  value_fault (Some a) h stray none = none

  step_kept : (w : Walk) (word : Text) (h : Held) (step : Step) → step_fault s w.position h step ≡ [] → HasValues h.rows
      → HasValues (after_step s.rules word w h step).held.rows
  step_kept w word h (next waiting) none v = v
  step_kept w word h (trailing position) none v = v
  step_kept w word h (subcommand name) none v = v
  step_kept w word h value none v =
      to_positional_kept (arg_by_index s.rules w.position) word w h
      (value_fault (arg_by_index s.rules w.position) h _ none) v

  walked_on : (o : Option (Text × List Text)) (w : Walk) (word : Text)
      → (let met = word_met s.rules names w.is_trailing w.waiting w.position word w.held in
      (if is_some o then [] else or_else (word_fault s names w.is_trailing w.waiting word w.held)
      (step_fault s w.position met.0 met.1)) ≡ [])
      → HasValues w.held.rows → HasValues (walked_from s.rules names o w word).held.rows
  walked_on (Some p) w word none v = v
  walked_on None w word none v =
      let met = word_met s.rules names w.is_trailing w.waiting w.position word w.held in
      step_kept w word met.0 met.1 (no_kinds _ _ none).1
      (word_kept w.is_trailing w.waiting w.position word w.held (no_kinds _ _ none).0 v)

  walked_kept : (w : Walk) (word : Text) → turn_fault s names w word ≡ [] → HasValues w.held.rows
      → HasValues (walked s.rules names w word).held.rows
  unfolding walked
  walked_kept w word none v = walked_on w.stopped w word none v

  -- the whole walk; by induction on the words
  walk_kept : (words : List Text) (w : Walk) → walk_fault s names w words ≡ [] → HasValues w.held.rows
      → HasValues (fold (walked s.rules names) w words).held.rows
  unfolding walk_fault
  walk_kept [] w none v = v
  walk_kept (word ∷ rest) w none v =
      walk_kept rest (walked s.rules names w word) (no_kinds _ _ none).1 (walked_kept w word (no_kinds _ _ none).0 v)

default_rows_kept : (id : Text) (how : Reading) (values : List Text) (rows : List Row) → Fit id values
    → HasValues rows
    → HasValues (default_rows id how values rows)
default_rows_kept id how [] rows g h = h
default_rows_kept id how (v ∷ vs) rows g h = with_values_kept id how DefaultValue v vs rows g h

-- filling in the defaults, which fit
defaults_kept : (c : List Rule) (rows : List Row) → AllAsk c → HasValues rows → HasValues (fold with_default rows c)
defaults_kept [] rows all h = h
defaults_kept (a ∷ c) rows all h =
    defaults_kept c (with_default rows a) all.1
    (choice (has_row a.id rows) rows (default_rows a.id (reading_by a) a.defaults rows) h
    (default_rows_kept a.id (reading_by a) a.defaults rows all.0.2 h))

-- ---- one level

-- a command whose arguments have no fault: each of its rows has a value, and the last check has no fault
level_rows : (s : Shape) (words : List Text) → AllAsk s.rules → level_fault s [] nothing_held words false [] ≡ []
    → HasValues (rows_after s.rules [] words) × (check_fault s (rows_after s.rules [] words) false ≡ [])
level_rows s words all none =
    let end = (walk s.rules [] nothing_held words).held in
    let walked_fault = no_kinds _ _ none in
    let settle = no_kinds _ _ walked_fault.1 in
    let last = no_kinds _ _ settle.1 in
    let at_end = walk_kept s [] all words (walk_from nothing_held) walked_fault.0 tt in (
      defaults_kept s.rules (settled s.rules end).rows all
          (settle_kept s.rules s.args_override_self all end settle.0 at_end),
      last.1,
    )

-- ---- the level that was entered

first_there : (xs : List Text) → 0 < length xs → is_some (slice_get xs 0) ≡ true
first_there [] lt = absurd (omega arith)
first_there (x ∷ xs) lt = refl

-- a row that was given has a first value
given_row : (o : Option Row) → IfSome o HasValue → option_map_or (λ r. explicit_source r.source) o false ≡ true
    → is_some (option_and_then (λ r. slice_get r.values 0) o) ≡ true
given_row None h e = e
given_row (Some r) h e = first_there r.values h.0

-- the row that is found among rows with values has one
row_found : (b : Bool) (r : Row) (o : Option Row) → HasValue r → IfSome o HasValue → IfSome (cond b (Some r) o) HasValue
row_found true r o h k = h
row_found false r o h k = k

find_values : (p : Row → Bool) (rows : List Row) → HasValues rows → IfSome (find p rows) HasValue
find_values p [] h = tt
find_values p (r ∷ rs) h = row_found (p r) r (find p rs) h.0 (find_values p rs h.1)

-- an option that counts as given has a value
given_first : (id : Text) (rows : List Row) → HasValues rows → is_given id rows ≡ true
    → is_some (first_of id rows) ≡ true
given_first id rows h e = given_row (find (λ r. bytes_eq r.id id) rows) (find_values _ rows h) e

-- the row that is found of an id has values, and has that id
of_id : (p : Row → Bool) (b : Bool) (r : Row) (o : Option Row) → p r ≡ b → HasValue r
    → IfSome o (λ q. HasValue q × (p q ≡ true))
    → IfSome (cond b (Some r) o) (λ q. HasValue q × (p q ≡ true))
of_id p true r o e h k = (h, e)
of_id p false r o e h k = k

find_of_id : (p : Row → Bool) (rows : List Row) → HasValues rows → IfSome (find p rows) (λ q. HasValue q × (p q ≡ true))
find_of_id p [] h = tt
find_of_id p (r ∷ rs) h = of_id p (p r) r (find p rs) refl h.0 (find_of_id p rs h.1)

first_passes : (p : Text → Bool) (ts : List Text) (t : Text) → list_all p ts ≡ true → slice_get ts 0 ≡ Some t
    → p t ≡ true
first_passes p [] t e is = absurd (true≢false (sym (ap is_some is)))
first_passes p (x ∷ xs) t e is = ap p (sym (some_is x t is)) ∙ (both (p x) _ e).0

fitting_row : (name : Text) (o : Option Row) (t : Text) → IfSome o (λ q. HasValue q × (bytes_eq q.id name ≡ true))
    → option_and_then (λ r. slice_get r.values 0) o ≡ Some t → fits name t ≡ true
fitting_row name None t h is = absurd (true≢false (sym (ap is_some is)))
fitting_row name (Some r) t h is = first_passes (fits name) r.values t (fit_same r.id name r.values h.1 h.0.1) is

-- the value of an option fits
given_fits : (name : Text) (rows : List Row) → HasValues rows → (t : Text) → first_of name rows ≡ Some t
    → fits name t ≡ true
given_fits name rows h t is =
    fitting_row name (find (λ r. bytes_eq r.id name) rows) t (find_of_id (λ r. bytes_eq r.id name) rows h) is

-- what the lemmas need of a subcommand: its rules are as `Asks` says; it is one of the four commands; and if it is
-- `match`, the last check fails unless both engines were given
abbrev Needs : Shape → Type 0
Needs s = AllAsk s.rules × ((rows : List Row) → check_fault s rows false ≡ [] → s.name ≡ codes "match"
    → (is_given (codes "white") rows ≡ true) × (is_given (codes "black") rows ≡ true)) × IsCommand s.name

abbrev AllNeed : List Shape → Type 0
AllNeed [] = Unit {0}
AllNeed (s ∷ ss) = Needs s × AllNeed ss

-- the subcommand that is found is such a one
level_found : (b : Bool) (s : Shape) (o : Option Shape) → Needs s → IfSome o Needs → IfSome (cond b (Some s) o) Needs
level_found true s o h k = h
level_found false s o h k = k

find_level : (p : Shape → Bool) (ss : List Shape) → AllNeed ss → IfSome (find p ss) Needs
find_level p [] h = tt
find_level p (s ∷ ss) h = level_found (p s) s (find p ss) h.0 (find_level p ss h.1)

shorter : (xs ys : List ℕ) → length xs < length ys → xs ≡ ys → ⊥
shorter xs ys lt e = let same : length xs ≡ length ys = ap length e in absurd (omega arith)

-- the check of required options reports no fault: none is missing
third : (b : Bool) → check_kinds false false b ≡ [] → b ≡ false
third false e = refl
third true e = absurd (some_kind kind.MissingRequiredArgument [] e)

-- the four subcommands are: for each rule the three tests are computed, and a value that passes the check of `--games`
-- or `--reply-timeout` is in its range
subs_need : (names : OptionNames) → AllNeed (built (arbiter_app names)).subs
subs_need names =
    let not_session : codes "session" ≡ codes "match" → ⊥ = λ e. shorter (codes "match") (codes "session") (lit< tt)
    (sym e) in
    let not_verify : codes "verify" ≡ codes "match" → ⊥ = λ e. shorter (codes "match") (codes "verify") (lit< tt)
    (sym e) in
    let not_stub : codes "stub" ≡ codes "match" → ⊥ = λ e. shorter (codes "stub") (codes "match") (lit< tt) e in (
      (((refl, (λ t e. refl), refl, refl), tt), λ rows none e. absurd (not_session e), inl refl),
      (
        (
          (
            (refl, (λ t e. refl), refl, refl),
            (
              (refl, (λ t e. refl), refl, refl),
              (
                (refl, (λ t e. refl), refl, refl),
                (
                  (refl, (λ t e. refl), refl, refl),
                  (
                    (refl, (λ t e. refl), refl, refl),
                    (
                      (refl, (λ t e. refl), refl, refl),
                      (
                        (refl, (λ t e. refl), refl, refl),
                        (
                          (refl, (λ t e. refl), refl, refl),
                          ((refl, (λ t e. refl), refl, refl), tt),
                        ),
                      ),
                    ),
                  ),
                ),
              ),
            ),
          ),
          λ rows none e. absurd (not_verify e),
          inr (inl refl),
        ),
        (
          (
            (
              (refl, (λ t e. refl), refl, refl),
              ((refl, (λ t e. refl), refl, refl), tt),
            ),
            λ rows none e. absurd (not_stub e),
            inr (inr (inl refl)),
          ),
          (
            (
              (
                (refl, (λ t e. refl), refl, refl),
                (
                  (refl, (λ t e. refl), refl, refl),
                  (
                    (refl, (λ t e. refl), refl, refl),
                    (
                      (refl, (λ t e. refl), refl, refl),
                      (
                        (refl, (λ t e. refl), refl, refl),
                        (
                          (refl, (λ t e. refl), refl, refl),
                          (
                            (refl, (λ t e. e), refl, refl),
                            (
                              (refl, (λ t e. refl), refl, refl),
                              (
                                (refl, (λ t e. refl), refl, refl),
                                (
                                  (refl, (λ t e. refl), refl, refl),
                                  (
                                    (refl, (λ t e. refl), refl, refl),
                                    (
                                      (refl, (λ t e. refl), refl, refl),
                                      (
                                        (refl, (λ t e. e), refl, refl),
                                        ((refl, (λ t e. refl), refl, refl), tt),
                                      ),
                                    ),
                                  ),
                                ),
                              ),
                            ),
                          ),
                        ),
                      ),
                    ),
                  ),
                ),
              ),
              λ rows none e.
                  let white = or_parts _ _ (third _ none) in
                  let black = or_parts _ _ white.1 in
                  (not-false _ white.0, not-false _ black.0),
              inr (inr (inr refl)),
            ),
            tt,
          ),
        ),
      ),
    )

-- what was matched by the subcommand that was entered is complete
level_of : (o : Option Shape) (words : List Text) → IfSome o Needs
    → option_map_or (λ s. level_fault s [] nothing_held words false []) o [] ≡ []
    → IfSome (option_map (λ s. rows_at s words) o) IsComplete
level_of None words n none = tt
level_of (Some s) words n none = (
  λ e.
      let l = level_rows s words n.0 none in
      let g = n.1 (rows_after s.rules [] words) l.1 e in
      (given_first (codes "white") _ l.0 g.0, given_first (codes "black") _ l.0 g.1),
  n.2,
  (
    given_fits (codes "games") (rows_after s.rules [] words) (level_rows s words n.0 none).0,
    given_fits (codes "reply-timeout") (rows_after s.rules [] words) (level_rows s words n.0 none).0,
  ),
)

stop_level : (a : App) (stop : Option (Text × List Text)) → AllNeed a.subs → entered_fault a stop ≡ []
    → IfSome (entered a stop) IsComplete
stop_level a None n none = tt
stop_level a (Some p) n none = level_of (find (λ s. answers_to p.0 (label_of s)) a.subs) p.1 (find_level _ a.subs n)
    none

-- what was matched of arguments without a fault is complete, if they name a subcommand
pub required_there : (names : OptionNames) (words : List Text) → fault_of (arbiter_app names) words ≡ []
    → IfSome (subcommand_of (arbiter_app names) words) IsComplete
required_there names words none =
    let whole = built (arbiter_app names) in
    stop_level whole (stop_after whole.top.rules (names_of whole) (argument_words (arbiter_app names) words))
    (subs_need names) (no_kinds _ _ (no_kinds _ _ none).1).0
