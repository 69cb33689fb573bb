-- What read_words returns is a right reading of the arguments. If `clap` refused them, its error or `NoMemory` is
-- returned (refused_reading). Otherwise the options that it matched are taken as written (`Request`), and then judged:
-- levels, FEN and date of a match, and the kinds after `--ignore` (planned_reading).
use Rattle.std.proofs.Common.{◌≡◌, ◌∙◌, ◌≤◌, ◌&&◌, ◌||◌, Bool, true, false, refl, ap, ap₂, sym, subst, inl, inr, option_map, unwrap_or, [], ◌∷◌, bytes_eq, codes, IfOk, IfErr, IfSome, List, Option, Some, None, Result, Ok, Err, Bor, ◌*◌}
use Rattle.std.proofs.Math.Bool.{or-false}
use Rattle.std.specs.List.{list_all, list_any}
use Rattle.clap.specs.Words.{HasKind, IsAmong, Kinds, Row, Text, fault_of, found_of, kind_of, rows_of, subcommand_of, subcommand_rows_of}
use Rattle.clap.specs.{declared.error.Error.Error, declared.parser.matches.ArgMatches.ArgMatches}
use Rattle.arbiter_grammar.specs.Grammar.{IsComplete, IsParsed, OptionNames, arbiter_app}
use Rattle.arbiter_cli.specs.Plans.{IsMatchPlan, IsPlanOf, IsReadAs, IsReading, Said, Values, ignores_kinds, is_date, levels_asked, levels_start_and_date, number_of, said_by, start_asked}
use Rattle.arbiter_cli.specs.ties.Requests.{IsJudged, IsJudgedFault, IsMatchOf, IsPlanFault, IsPlanned, IsRequestOf, Refuses, asked, is_kind, levels_by, levels_in, names_in, said_of, start_of}
use Rattle.chess_match.specs.declared.games_plan.GamesPlan.{GamesPlan}
use Rattle.chess_match.specs.declared.patience.Patience.{Patience}
use Rattle.arbiter_cli.specs.{declared.fault.WordsFault.WordsFault, declared.plan.Plan.Plan, declared.request.MatchRequest.MatchRequest, declared.request.Request.Request}
use Rattle.arbiter_cli.specs.declared.fault.WordsFault.TheVariants.{Words, NoMemory, BadLevel, BadFen, BadDate, BadKind}
use Rattle.arbiter_cli.specs.declared.request.Request.TheVariants as request
use Rattle.arbiter_cli.proofs.shared.Turns.{read_as}

-- the fault is an error of `clap` of one of these kinds, or that memory ran out
abbrev IsRefusalBy : Kinds → WordsFault → Type 0
IsRefusalBy kinds (Words e) = IsAmong (kind_of e) kinds
IsRefusalBy kinds NoMemory = Unit {0}
IsRefusalBy kinds _ = ⊥

-- such is the fault made of an error of `clap`
refusal_by : (kinds : Kinds) (e : Error) (f : WordsFault) → HasKind kinds e → Refuses e f → IsRefusalBy kinds f
refusal_by kinds e (Words x) (inl none) (other, same) = absurd (other none)
refusal_by kinds e (Words x) (inr among) (other, same) =
    subst (λ (y : Error). IsAmong (kind_of y) kinds) (sym same) among
refusal_by kinds e NoMemory h fits = tt
refusal_by kinds e (BadLevel x) h fits = absurd fits
refusal_by kinds e (BadFen x) h fits = absurd fits
refusal_by kinds e BadDate h fits = absurd fits
refusal_by kinds e BadKind h fits = absurd fits

-- and such a fault is a right reading
refused_by : (kinds : Kinds) (said : Said) (f : WordsFault) → IsRefusalBy kinds f → IsReadAs kinds said (Err f)
refused_by kinds said (Words x) h = h
refused_by kinds said NoMemory h = h
refused_by kinds said (BadLevel x) h = absurd h
refused_by kinds said (BadFen x) h = absurd h
refused_by kinds said BadDate h = absurd h
refused_by kinds said BadKind h = absurd h

-- what is returned where `clap` refused the arguments is a right reading of them
pub refused_reading : (texts : List Text) (e : Error) (f : WordsFault) → IsParsed texts (Err e) → Refuses e f
    → IsReading texts (Err f)
refused_reading texts e f p fits =
    let kinds = fault_of (arbiter_app p.0) texts in
    (p.0, refused_by kinds (said_by p.0 texts) f (refusal_by kinds e f p.1 fits))

-- seconds that are read and then taken as milliseconds
in_millis : (o : Option Text) → option_map (λ n. n * 1000) (option_map number_of o)
    ≡ option_map (λ t. number_of t * 1000) o
in_millis None = refl
in_millis (Some t) = refl

-- a match whose options (`value`) were taken as written (`m`) and then judged: the plan, or the fault, is the one that
-- the options denote
module _ (value : Values) (m : MatchRequest) (is : IsMatchOf value m) where
  -- the texts of levels, the variant and the FEN are those of the options, so they denote the same
  level_is : levels_asked value ≡ levels_in m
  level_is = ap (λ (t : Text). levels_by t (value (codes "white-level")) (value (codes "black-level"))) (sym is.level)
      ∙ ap₂ (levels_by m.level.now) (sym is.white_level) (sym is.black_level)

  start_is : start_asked value ≡ start_of m.variant (option_map (λ t. t.now) m.fen)
  start_is = ap₂ start_of (sym is.variant) (sym is.fen)

  -- a plan made of the request is one of the options
  match_judged : (plan : GamesPlan) → IsJudged m plan → IsMatchPlan value plan
  match_judged plan validate = record {
    white = is.white ∙ ap (λ (t : Bor Text). Some t.now) (sym validate.white);
    black = is.black ∙ ap (λ (t : Bor Text). Some t.now) (sym validate.black);
    read = read_as value (Ok (plan.white_level, plan.black_level)) (Ok plan.start) plan.date.now true
        (level_is ∙ validate.levels)
        (start_is ∙ validate.start) (sym is.date ∙ ap (λ (t : Bor Text). t.now) (sym validate.date))
        (ap (λ (t : Bor Text). is_date t.now) validate.date ∙ validate.good_date);
    games = validate.games ∙ is.games;
    games_range = subst (λ n. (1 ≤ n) × (n ≤ 1000)) (sym validate.games) is.games_range;
    log = validate.log ∙ is.log;
    flag = ap (λ (p : Patience). p.flag) validate.patience ∙ is.flag;
    reply = ap (λ (p : Patience). p.reply) validate.patience ∙ ap (option_map (λ n. n * 1000)) is.reply
        ∙ in_millis (value (codes "reply-timeout"));
    draws = validate.draws ∙ is.draws;
  }

  -- a fault of the request is that of the options: of level, FEN and date the first that is not valid
  judged_fault : (f : WordsFault) → IsJudgedFault m f → levels_start_and_date value ≡ Err f
  judged_fault (Words x) h = absurd h
  judged_fault NoMemory h = absurd h
  judged_fault BadKind h = absurd h
  judged_fault (BadLevel x) h =
      read_as value (Err x) (start_asked value) m.date.now (is_date m.date.now) (level_is ∙ h) refl (sym is.date) refl
  judged_fault (BadFen x) (l, level, start) =
      read_as value (Ok l) (Err x) m.date.now (is_date m.date.now) (level_is ∙ level) (start_is ∙ start)
      (sym is.date) refl
  judged_fault BadDate (l, p, level, start, date) =
      read_as value (Ok l) (Ok p) m.date.now false (level_is ∙ level) (start_is ∙ start) (sym is.date) date

-- so the fault is a right reading of arguments that ask for a match
match_fault : (kinds : Kinds) (said : Said) (f : WordsFault) → kinds ≡ [] → said.command ≡ codes "match"
    → (m : MatchRequest) → IsMatchOf said.value m → IsJudgedFault m f → IsReadAs kinds said (Err f)
match_fault kinds said (Words x) none name m is h = absurd h
match_fault kinds said NoMemory none name m is h = absurd h
match_fault kinds said BadKind none name m is h = absurd h
match_fault kinds said (BadLevel x) none name m is h = (none, name, judged_fault _ m is (BadLevel x) h)
match_fault kinds said (BadFen x) none name m is h = (none, name, judged_fault _ m is (BadFen x) h)
match_fault kinds said BadDate none name m is h = (none, name, judged_fault _ m is BadDate h)

-- whether all names in the list are those of kinds
abbrev are_kinds : Option Text → Bool
are_kinds list = list_all is_kind (names_in list)

-- whether a name is that of a kind, as two definitions say it: by a list, and by a test for each (kind_listed)
abbrev is_listed : Text → Bool
is_listed name =
    list_any (bytes_eq name) (codes "variant" ∷ codes "result" ∷ codes "board" ∷ codes "after-end" ∷ [])

kind_listed : (name : Text) → is_listed name ≡ is_kind name
kind_listed name = ap (λ (b : Bool). bytes_eq name (codes "variant")
    || (bytes_eq name (codes "result") || (bytes_eq name (codes "board") || b)))
    (or-false (bytes_eq name (codes "after-end")))

all_listed : (names : List Text) → list_all is_listed names ≡ list_all is_kind names
all_listed [] = refl
all_listed (name ∷ names) = ap₂ (λ (a b : Bool). a && b) (kind_listed name) (all_listed names)

-- the kinds to ignore are judged by the list that `--ignore` was given
kinds_judged : (value : Values) (list : Option Text) (are : Bool) → list ≡ value (codes "ignore")
    → are_kinds list ≡ are → ignores_kinds value ≡ are
kinds_judged value list are is e = all_listed (names_in (value (codes "ignore"))) ∙ sym (ap are_kinds is) ∙ e

-- the plan made of a request is one that the arguments ask for; a fault in place of the plan is a right reading
-- (plan_fault)
planned_plan : (said : Said) (s : Request) (plan : Plan) → IsRequestOf said s → IsPlanned s plan → IsPlanOf said plan
planned_plan said request.Session plan is e = subst (IsPlanOf said) (sym e) is
planned_plan said (request.Verify keep_going options ignored) plan is e =
    subst (IsPlanOf said) (sym e.0) (is.0, kinds_judged said.value _ true is.3 e.1, is.1, is.2)
planned_plan said (request.Stub arguments) plan is e = subst (IsPlanOf said) (sym e) is
planned_plan said (request.Match m) plan is e =
    subst (IsPlanOf said) (sym e.1) (is.0, match_judged said.value m is.1 e.0 e.2)

plan_fault : (kinds : Kinds) (said : Said) (s : Request) (f : WordsFault) → kinds ≡ [] → IsRequestOf said s
    → IsPlanFault s f → IsReadAs kinds said (Err f)
plan_fault kinds said request.Session f none is h = absurd h
plan_fault kinds said (request.Verify keep_going options ignored) f none is h =
    subst (λ (x : WordsFault). IsReadAs kinds said (Err x)) (sym h.0)
    (none, is.0, kinds_judged said.value _ false is.3 h.1)
plan_fault kinds said (request.Stub arguments) f none is h = absurd h
plan_fault kinds said (request.Match m) f none is h = match_fault kinds said f none is.0 m is.1 h

-- a request that the arguments denote was planned: the plan or the fault is a right reading of them
pub planned_reading : (names : OptionNames) (texts : List Text) → fault_of (arbiter_app names) texts ≡ []
    → (s : Request) → IsRequestOf (said_of (asked names texts)) s
    → (r : Result Plan WordsFault) → IfOk r (IsPlanned s) → IfErr r (IsPlanFault s) → IsReading texts r
planned_reading names texts none s is (Ok plan) p f = (names, (none, planned_plan (said_by names texts) s plan is p))
planned_reading names texts none s is (Err e) p f =
    (names, plan_fault (fault_of (arbiter_app names) texts) (said_by names texts) s e none is f)

-- ---- the command that was entered

-- the subcommand's name and the rows of its options, to which these are references
abbrev pub with_rows : Bor Text × Bor ArgMatches → Text × List Row
with_rows p = (p.0.now, rows_of (found_of p.1.now))

-- what is asked for by the subcommand that was found; without one a session
abbrev or_session : Option (Text × List Row) → Text × List Row
or_session o = unwrap_or o (codes "session", [])

-- `clap` parsed the arguments `texts` into `m`, and `o` is the subcommand found in it: what is asked for is that one,
-- or a session if there is none, and it has all that its grammar requires (entered_well)
module _ (texts : List Text) (m : ArgMatches) (p : IsParsed texts (Ok m)) (o : Option (Bor Text × Bor ArgMatches))
    (e : option_map with_rows o ≡ subcommand_rows_of m) where
  abbrev pub met : option_map with_rows o ≡ subcommand_of (arbiter_app p.0) texts
  met = e ∙ p.1.1

  pub none_asked : o ≡ None → asked p.0 texts ≡ (codes "session", [])
  none_asked is = ap or_session (sym met ∙ ap (option_map with_rows) is)

  pub some_asked : (x : Bor Text × Bor ArgMatches) → o ≡ Some x → asked p.0 texts ≡ with_rows x
  some_asked x is = ap or_session (sym met ∙ ap (option_map with_rows) is)

  pub entered_well : IfSome (subcommand_rows_of m) IsComplete → (x : Bor Text × Bor ArgMatches) → o ≡ Some x
      → IsComplete (with_rows x)
  entered_well complete x is = subst (λ (y : Option (Text × List Row)). IfSome y IsComplete)
      (sym e ∙ ap (option_map with_rows) is) complete
