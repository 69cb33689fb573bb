-- What laws on a match's output need of its games, if it was played to its score (wrote): the output is the text of
-- these games and the score (Wrote), and each game has the reported outcome (IsGame), a sound start (is_sound), legal
-- moves (is_line), and tags whose texts a tag may have (tag_texts). It follows from `PlaysGamesWith`, and from laws on
-- matches given as arguments.
use Rattle.std.proofs.Common.{◌≡◌, ℕ, ◌≤◌, ◌+◌, true, List, [], ◌∷◌, ◌++◌, length, length-append, map, take, None, Some, Option, Ok, Err, Result, sym, ap, subst, inl, inr, arith, is_ok, codes, decimal}
use Rattle.std.specs.List.{AllByRecursion, enumerate_from}
use Rattle.std.proofs.{lemmas.Bool.Decides.nat_tests, lemmas.List.length-map, lemmas.List.length-take}
use Rattle.byte_devices.specs.{Transfers.OutputTook, Transfers.ToOutput, Transfers.all_of, Bytes.shown_byte}
use Rattle.chess_base.specs.{ByColour.of_colour, Sound.IsSound, declared.man.Colour.Colour}
use Rattle.chess_game.specs.{Game.Seen, Game.outcome_now, Line.IsLine, Results.IsTagText, Results.cut_tag, declared.game.TheConstants.MOST_MOVES}
use Rattle.chess_match.specs.{Acts.Act, Acts.IsMatch, Effects.Match, Rules.Rules, Rules.rules_of, declared.reason.MatchFault.MatchFault, declared.run.MatchEnd.MatchEnd}
use Rattle.chess_match_laws.specs.OfActs.{GamesAreLines, OutcomesAreOfTheGame}
use Rattle.chess_pgn_laws.specs.PgnLaw.{AreTagTexts}
use Rattle.match_runner.specs.Games.{AreAllGames, GameRecord, IsOfPlan, WritesGames, game_texts, score_line, setup_of, tags_of}
use Rattle.match_runner.specs.GamesTable.{GamesStep, HostStep, OpensClock, Outputs, PlaysBy, PlaysGamesWith, at_host}
use Rattle.chess_match.specs.declared.games_plan.GamesPlan.{GamesPlan}
use Rattle.match_runner.specs.declared.fault.GamesFault.{GamesFault}
use Rattle.match_runner.specs.declared.fault.GamesFault.TheVariants.{WriteFailed, NoMemory, CanNotStart, Game}
use Rattle.match_pgn_laws.specs.Scores.{HasScore}

-- ---- tags

-- each byte of a text as tags show it is printable ASCII
each_shown : (text : List ℕ) → AllByRecursion (λ c. (32 ≤ c) × (c ≤ 126)) (map shown_byte text)
each_shown [] = tt
each_shown (c ∷ cs) = ((grind (arith, nat_tests), grind (arith, nat_tests)), each_shown cs)

-- a text cut for a tag, to 60 bytes of printable ASCII, may be a tag's text
cut_is_tag : (text : List ℕ) → IsTagText (cut_tag text)
cut_is_tag text = record {
  few = omega (arith, length-map (take 60 text) shown_byte, length-take 60 text);
  printable = each_shown (take 60 text);
}

-- so all tags of a game of a match are such texts
pub tag_texts : (plan : GamesPlan) (number : ℕ) (end : MatchEnd) → AreTagTexts (tags_of plan number end)
tag_texts plan number end = record {
  event = cut_is_tag (codes "CECP match");
  site = cut_is_tag (codes "?");
  date = cut_is_tag plan.date.now;
  round = cut_is_tag (decimal number);
  white = cut_is_tag _;
  black = cut_is_tag _;
}

-- ---- a game

-- the rules of the game of this number, with this limit of half-moves
abbrev pub rules : GamesPlan → ℕ → ℕ → Rules
rules plan number limit =
    rules_of plan.start (of_colour (setup_of plan number).levels) plan.patience plan.draws limit

-- of the game of this record, which has this number, what its text shows: it starts as the plan says, its moves are
-- those of a match by its rules (`is_line`: so they are legal), and its outcome is the one that was reported
pub record IsGame (plan : GamesPlan) (number : ℕ) (played : GameRecord) : Type 0 where
  pub acts : List Act
  pub final : Match
  pub is_match : IsMatch (rules plan number MOST_MOVES) acts final
  pub start : played.after.game.state.start ≡ plan.start
  pub moves : played.after.game.state.moves ≡ final.played
  pub outcome : played.end.outcome ≡ outcome_now played.after.game.state

-- a game that was played by the plan is such a game
pub is_game : OutcomesAreOfTheGame → (plan : GamesPlan) (number : ℕ) (played : GameRecord)
    → IsOfPlan plan number played → IsGame plan number played
is_game outcomes plan number played (limit, spared, (H, reason, notes, by)) =
    let (final, passed, reported, game) = by in record {
      acts = H;
      final = final;
      is_match = subst (λ (n : ℕ). IsMatch (rules plan number n) H final) limit passed.is_match;
      start = ap (λ (g : Seen). g.state.start) game;
      moves = ap (λ (g : Seen). g.state.moves) game;
      outcome = outcomes H reason _ played.end played.before played.after by;
    }

-- its moves are legal, each in its position, as those of every match are (the law `GamesAreLines`)
pub is_line : GamesAreLines → (plan : GamesPlan) (number : ℕ) (played : GameRecord)
    → (g : IsGame plan number played) → IsLine played.after.game.state.start played.after.game.state.moves
is_line lines plan number played g =
    subst (λ p. IsLine p played.after.game.state.moves) (sym g.start)
    (subst (IsLine plan.start) (sym g.moves)
    (lines plan.start (of_colour (setup_of plan number).levels) plan.patience plan.draws MOST_MOVES g.acts g.final
    g.is_match))

-- its start is sound, if the plan's is
pub is_sound : (plan : GamesPlan) (number : ℕ) (played : GameRecord) → IsGame plan number played
    → IsSound plan.start → IsSound played.after.game.state.start
is_sound plan number played g sound = subst IsSound (sym g.start) sound

-- ---- the games of a match that was played to its score

-- these games, of which the first has this number, were played as the plan says
abbrev pub AreOfPlan : GamesPlan → ℕ → List GameRecord → Type 0
AreOfPlan plan number games = AllByRecursion (λ g. IsOfPlan plan g.0 g.1) (enumerate_from number games)

-- what it wrote: the text of these games, each played by the plan, and the score
pub record Wrote (plan : GamesPlan) (result : Result (Unit {0}) GamesFault) (d d' : Outputs) : Type 0 where
  pub games : List GameRecord
  pub of_plan : AreOfPlan plan 1 games
  pub all : is_ok result ≡ true → length games ≡ plan.games
  pub written : OutputTook d.output d'.output (all_of (game_texts plan games ++ score_line games))

-- games without a fault, numbered from `n` on, were played by the plan
of_faultless : (plan : GamesPlan) (n : ℕ) (games : List GameRecord)
    → AllByRecursion (λ g. IsOfPlan plan g.0 g.1 × (g.1.end.fault ≡ None)) (enumerate_from n games)
    → AreOfPlan plan n games
of_faultless plan n [] h = tt
of_faultless plan n (g ∷ games) ((of, none), h) = (of, of_faultless plan (n + 1) games h)

-- and with a last game more, which may have a fault
with_last : (plan : GamesPlan) (n number : ℕ) (before : List GameRecord) (last : GameRecord)
    → AreOfPlan plan n before → IsOfPlan plan number last → number ≡ n + length before
    → AreOfPlan plan n (before ++ last ∷ [])
with_last plan n number [] last h of is =
    let here : number ≡ n = omega (arith, is) in (subst (λ k. IsOfPlan plan k last) here of, tt)
with_last plan n number (g ∷ before) last h of is =
    (h.0, with_last plan (n + 1) number before last h.1 of (omega (arith, is)))

-- so it is for all games of a match, whether or not one of them ended it by a fault
of_all : (plan : GamesPlan) (games : List GameRecord) (fault : Option (ℕ × Colour × MatchFault))
    → AreAllGames plan games fault → AreOfPlan plan 1 games
of_all plan games None (h, many) = of_faultless plan 1 games h
of_all plan games (Some (number, side, fault)) (before, last, is, h, of, found, counted, few) =
    let longer = length-append before (last ∷ []) in
    let long = ap length is in
    subst (AreOfPlan plan 1) (sym is)
    (with_last plan 1 number before last (of_faultless plan 1 before h) of (omega (arith, longer, long, counted)))

-- a match that was played to its score wrote what `Wrote` says: without a fault, or with that of its last game
scored_by : (plan : GamesPlan) (result : Result (Unit {0}) GamesFault) (coming : ℕ → Option ℕ)
    (passes : List GamesStep → Type 0) (d d' : Outputs) → HasScore result
    → PlaysBy plan result coming passes d d' → Wrote plan result d d'
scored_by plan (Ok v) coming passes d d' s (games, unwritten, (o, writes, took, logs), turns, passed) =
    at unwritten writes
  where
    at : (u : Option GameRecord) → WritesGames plan (Ok v) games u o → Wrote plan (Ok v) d d'
    at None (all, is) = record {
      games = games;
      of_plan = of_all plan games None all;
      all = λ e. all.1;
      written = subst (λ (t : ToOutput). OutputTook d.output d'.output t) is took;
    }
    at (Some u) w = absurd w
scored_by plan (Err (Game number text)) coming passes d d' s (games, unwritten, (o, writes, took, logs), turns, passed) =
    at unwritten writes
  where
    at : (u : Option GameRecord) → WritesGames plan (Err (Game number text)) games u o
        → Wrote plan (Err (Game number text)) d d'
    at None (side, fault, all, named, is) = record {
      games = games;
      of_plan = of_all plan games (Some (number, side, fault)) all;
      all = λ e. absurd (cc);
      written = subst (λ (t : ToOutput). OutputTook d.output d'.output t) is took;
    }
    at (Some u) w = absurd w
scored_by plan (Err WriteFailed) coming passes d d' s played = absurd s
scored_by plan (Err NoMemory) coming passes d d' s played = absurd s
scored_by plan (Err (CanNotStart command)) coming passes d d' s played = absurd s

-- so it is for every match with a host that was played to its score
pub wrote : (plan : GamesPlan) (result : Result (Unit {0}) GamesFault) (steps : List HostStep) (d d' : Outputs)
    → HasScore result → PlaysGamesWith plan result steps d d' → Wrote plan result d d'
wrote plan result steps d d' s (inl (c, by)) =
    scored_by plan result c (λ at_table. steps ≡ OpensClock c ∷ at_host at_table) d d' s by
wrote plan result steps d d' s (inr (is, none, kept)) = absurd (subst HasScore is s)
