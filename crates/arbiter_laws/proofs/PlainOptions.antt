-- `clap`'s walk takes each option of `verify` (of_verify) and of `match` (of_match): for each name the fields of
-- TakesValue or IsFlag of PlainWalk are computed from the subcommand's rules. For an option with a checked value, such
-- as `--games`, this needs that the value passes.
use Rattle.std.proofs.Common.{◌≡◌, ◌∙◌, ◌++◌, ◌<◌, ◌≤◌, ◌^◌, ℕ, Bor, Bool, true, false, List, [], ◌∷◌, codes, refl, sym, subst, ap, inl, inr, arith, if◌then◌else◌, bytes_eq}
use Rattle.std.specs.{List.list_any, Str.Parse.digits_value, Str.Parse.without_leading_plus}
use Rattle.clap.specs.{Faults.repeat_fault, Kinds.or_else, ValueTests.accepts, Walk.Rule, Walk.Text, Walk.walked}
use Rattle.clap.specs.Simple.{Shape, filled_from, help_rule, new_shape}
use Rattle.clap.specs.declared.builder.value_parser.ValueParser.TheVariants as vp
use Rattle.clap.specs.declared.error.kind.ErrorKind.TheVariants as kind
use Rattle.clap.proofs.{ValueTestLemmas.Accepts-accepts, WalkLemmas.list_any-map}
use Rattle.arbiter_grammar.specs.Grammar.{OptionNames, match_app, stub_app, verify_app}
use Rattle.arbiter_laws.specs.PlainArguments.{Given, IsDraws, IsNumberTo, IsOfMatch, IsOfVerify, IsVariant, flag, has_hyphen, valued}
use Rattle.arbiter_laws.proofs.PlainWalk.{IsFlag, Known, TakesValue}

-- the subcommand `name` with these rules, as `clap` completes it: with a rule for `--help`
abbrev pub built_shape : Text → List Rule → Shape
built_shape name rules = record (new_shape name) {
  rules = filled_from 1 (rules ++ help_rule ∷ []);
  no_binary_name = true;
  disable_help_subcommand = true;
  is_built = true;
}

abbrev pub verify_shape : Shape
verify_shape = built_shape (codes "verify") verify_app.top.rules

abbrev pub stub_shape : Shape
stub_shape = built_shape (codes "stub") stub_app.top.rules

abbrev pub match_shape : OptionNames → Shape
match_shape names = built_shape (codes "match") (match_app names).top.rules

-- ---- verify

-- `--ignore` takes any text that no hyphen begins
ignore : (text : Text) → has_hyphen text ≡ false → TakesValue verify_shape (codes "ignore") text
unfolding walked
ignore text plain = record {
  first = λ rows p. refl;
  first_fault = λ rows p. refl;
  plain = plain;
  taken = λ rows. refl;
  uses = λ rows. refl;
  passes = λ rows. refl;
}

pub of_verify : (g : Given) → IsOfVerify g → Known verify_shape g
unfolding walked
of_verify (valued name text) (plain, e) = subst (λ n. TakesValue verify_shape n text) (sym e) (ignore text plain)
of_verify (flag name) (inl e) = subst (IsFlag verify_shape) (sym e)
    (record { first = λ rows p. refl; first_fault = λ rows p. refl })
of_verify (flag name) (inr (inl e)) = subst (IsFlag verify_shape) (sym e)
    (record { first = λ rows p. refl; first_fault = λ rows p. refl })
of_verify (flag name) (inr (inr (inl e))) = subst (IsFlag verify_shape) (sym e)
    (record { first = λ rows p. refl; first_fault = λ rows p. refl })
of_verify (flag name) (inr (inr (inr (inl e)))) = subst (IsFlag verify_shape) (sym e)
    (record { first = λ rows p. refl; first_fault = λ rows p. refl })
of_verify (flag name) (inr (inr (inr (inr (inl e))))) = subst (IsFlag verify_shape) (sym e)
    (record { first = λ rows p. refl; first_fault = λ rows p. refl })
of_verify (flag name) (inr (inr (inr (inr (inr (inl e)))))) = subst (IsFlag verify_shape) (sym e)
    (record { first = λ rows p. refl; first_fault = λ rows p. refl })
of_verify (flag name) (inr (inr (inr (inr (inr (inr e)))))) = subst (IsFlag verify_shape) (sym e)
    (record { first = λ rows p. refl; first_fault = λ rows p. refl })

-- ---- match

-- a number up to 1,000 fits into 64 bits
small : (n most : ℕ) → n ≤ most → most ≤ 1000 → n < 2 ^ 64
small n most le limit = omega arith

-- a number from 1 to `most` passes the check of an option that takes such numbers
number_passes : (most : ℕ) → most ≤ 1000 → (text : Text) → IsNumberTo most text
    → accepts false (vp.Unsigned 1 most) text ≡ true
number_passes most limit text is = Accepts-accepts false (vp.Unsigned 1 most) text
    (is.0, small (digits_value 10 (without_leading_plus text)) most is.2 limit, is.1, is.2)

abbrev is_text : Text → Text → Bool
is_text text name = bytes_eq name text

abbrev now_of : Bor Text → Text
now_of name = name.now

-- the name of a variant, or of how draws end games, is in the list of names that the option takes
variant_named : (text : Text) → IsVariant text
    → list_any (is_text text) (codes "normal" ∷ codes "fischerandom" ∷ []) ≡ true
variant_named text (inl e) =
    subst (λ t. list_any (is_text t) (codes "normal" ∷ codes "fischerandom" ∷ []) ≡ true) (sym e) refl
variant_named text (inr e) =
    subst (λ t. list_any (is_text t) (codes "normal" ∷ codes "fischerandom" ∷ []) ≡ true) (sym e) refl

draws_named : (text : Text) → IsDraws text
    → list_any (is_text text) (codes "claimed" ∷ codes "automatic" ∷ []) ≡ true
draws_named text (inl e) =
    subst (λ t. list_any (is_text t) (codes "claimed" ∷ codes "automatic" ∷ []) ≡ true) (sym e) refl
draws_named text (inr e) =
    subst (λ t. list_any (is_text t) (codes "claimed" ∷ codes "automatic" ∷ []) ≡ true) (sym e) refl

-- the options of `match` that take the value `text`
module _ (names : OptionNames) (text : Text) (plain : has_hyphen text ≡ false) where
  white : TakesValue (match_shape names) (codes "white") text
  unfolding walked
  white = record {
    first = λ rows p. refl;
    first_fault = λ rows p. refl;
    plain = plain;
    taken = λ rows. refl;
    uses = λ rows. refl;
    passes = λ rows. refl;
  }

  black : TakesValue (match_shape names) (codes "black") text
  unfolding walked
  black = record {
    first = λ rows p. refl;
    first_fault = λ rows p. refl;
    plain = plain;
    taken = λ rows. refl;
    uses = λ rows. refl;
    passes = λ rows. refl;
  }

  level : TakesValue (match_shape names) (codes "level") text
  unfolding walked
  level = record {
    first = λ rows p. refl;
    first_fault = λ rows p. refl;
    plain = plain;
    taken = λ rows. refl;
    uses = λ rows. refl;
    passes = λ rows. refl;
  }

  white_level : TakesValue (match_shape names) (codes "white-level") text
  unfolding walked
  white_level = record {
    first = λ rows p. refl;
    first_fault = λ rows p. refl;
    plain = plain;
    taken = λ rows. refl;
    uses = λ rows. refl;
    passes = λ rows. refl;
  }

  black_level : TakesValue (match_shape names) (codes "black-level") text
  unfolding walked
  black_level = record {
    first = λ rows p. refl;
    first_fault = λ rows p. refl;
    plain = plain;
    taken = λ rows. refl;
    uses = λ rows. refl;
    passes = λ rows. refl;
  }

  fen : TakesValue (match_shape names) (codes "fen") text
  unfolding walked
  fen = record {
    first = λ rows p. refl;
    first_fault = λ rows p. refl;
    plain = plain;
    taken = λ rows. refl;
    uses = λ rows. refl;
    passes = λ rows. refl;
  }

  date : TakesValue (match_shape names) (codes "date") text
  unfolding walked
  date = record {
    first = λ rows p. refl;
    first_fault = λ rows p. refl;
    plain = plain;
    taken = λ rows. refl;
    uses = λ rows. refl;
    passes = λ rows. refl;
  }

  games : IsNumberTo 1000 text → TakesValue (match_shape names) (codes "games") text
  unfolding walked
  games number = record {
    first = λ rows p. refl;
    first_fault = λ rows p. refl;
    plain = plain;
    taken = λ rows. refl;
    uses = λ rows. refl;
    passes = λ rows. ap (λ (b : Bool). or_else (repeat_fault false (codes "games") rows)
        (or_else (if b then [] else kind.ValueValidation ∷ []) [])) (number_passes 1000 (omega arith) text number);
  }

  reply_timeout : IsNumberTo 999 text → TakesValue (match_shape names) (codes "reply-timeout") text
  unfolding walked
  reply_timeout number = record {
    first = λ rows p. refl;
    first_fault = λ rows p. refl;
    plain = plain;
    taken = λ rows. refl;
    uses = λ rows. refl;
    passes = λ rows. ap (λ (b : Bool). or_else (repeat_fault false (codes "reply-timeout") rows)
        (or_else (if b then [] else kind.ValueValidation ∷ []) [])) (number_passes 999 (omega arith) text number);
  }

  variant : IsVariant text → TakesValue (match_shape names) (codes "variant") text
  unfolding walked
  variant is = record {
    first = λ rows p. refl;
    first_fault = λ rows p. refl;
    plain = plain;
    taken = λ rows. refl;
    uses = λ rows. refl;
    passes = λ rows. ap (λ (b : Bool). or_else (repeat_fault false (codes "variant") rows)
        (or_else (if b then [] else kind.InvalidValue ∷ []) [])) (list_any-map (is_text text) now_of names.variants.now
        ∙ ap (list_any (is_text text)) names.variants_are ∙ variant_named text is);
  }

  draws : IsDraws text → TakesValue (match_shape names) (codes "draws") text
  unfolding walked
  draws is = record {
    first = λ rows p. refl;
    first_fault = λ rows p. refl;
    plain = plain;
    taken = λ rows. refl;
    uses = λ rows. refl;
    passes = λ rows. ap (λ (b : Bool). or_else (repeat_fault false (codes "draws") rows)
        (or_else (if b then [] else kind.InvalidValue ∷ []) [])) (list_any-map (is_text text) now_of names.draws.now
        ∙ ap (list_any (is_text text)) names.draws_are ∙ draws_named text is);
  }

log : (names : OptionNames) → IsFlag (match_shape names) (codes "log")
unfolding walked
log names = record { first = λ rows p. refl; first_fault = λ rows p. refl }

falls : (names : OptionNames) → IsFlag (match_shape names) (codes "flag")
unfolding walked
falls names = record { first = λ rows p. refl; first_fault = λ rows p. refl }

pub of_match : (names : OptionNames) (g : Given) → IsOfMatch g → Known (match_shape names) g
of_match names (flag name) (inl e) = subst (IsFlag (match_shape names)) (sym e) (log names)
of_match names (flag name) (inr e) = subst (IsFlag (match_shape names)) (sym e) (falls names)
of_match names (valued name text) (plain, inl e) =
    subst (λ n. TakesValue (match_shape names) n text) (sym e) (white names text plain)
of_match names (valued name text) (plain, inr (inl e)) =
    subst (λ n. TakesValue (match_shape names) n text) (sym e) (black names text plain)
of_match names (valued name text) (plain, inr (inr (inl e))) =
    subst (λ n. TakesValue (match_shape names) n text) (sym e) (level names text plain)
of_match names (valued name text) (plain, inr (inr (inr (inl e)))) =
    subst (λ n. TakesValue (match_shape names) n text) (sym e) (white_level names text plain)
of_match names (valued name text) (plain, inr (inr (inr (inr (inl e))))) =
    subst (λ n. TakesValue (match_shape names) n text) (sym e) (black_level names text plain)
of_match names (valued name text) (plain, inr (inr (inr (inr (inr (inl e)))))) =
    subst (λ n. TakesValue (match_shape names) n text) (sym e) (fen names text plain)
of_match names (valued name text) (plain, inr (inr (inr (inr (inr (inr (inl e))))))) =
    subst (λ n. TakesValue (match_shape names) n text) (sym e) (date names text plain)
of_match names (valued name text) (plain, inr (inr (inr (inr (inr (inr (inr (inl (e, number))))))))) =
    subst (λ n. TakesValue (match_shape names) n text) (sym e) (games names text plain number)
of_match names (valued name text) (plain, inr (inr (inr (inr (inr (inr (inr (inr (inl (e, number)))))))))) =
    subst (λ n. TakesValue (match_shape names) n text) (sym e) (reply_timeout names text plain number)
of_match names (valued name text) (plain, inr (inr (inr (inr (inr (inr (inr (inr (inr (inl (e, is))))))))))) =
    subst (λ n. TakesValue (match_shape names) n text) (sym e) (variant names text plain is)
of_match names (valued name text) (plain, inr (inr (inr (inr (inr (inr (inr (inr (inr (inr ((e, is)))))))))))) =
    subst (λ n. TakesValue (match_shape names) n text) (sym e) (draws names text plain is)
