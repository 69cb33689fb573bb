-- The PGN of a game follows from its log: two games of one number and plan that have the same log have the same text
-- (logs_give_the_pgn), since their moves, names and ends are the same. So two matches whose games have the same logs
-- write the same output, PGN and score (logs_give_the_output).
use Rattle.std.proofs.Common.{◌≡◌, ◌∙◌, ◌+◌, ℕ, List, [], ◌∷◌, ◌++◌, map, refl, sym, ap, subst}
use Rattle.std.specs.Prelude.{⊤, codes, cond, decimal, flat_map, fold}
use Rattle.std.specs.List.{AllByRecursion, enumerate_from}
use Rattle.byte_devices.specs.Bytes.{new_line}
use Rattle.chess_base.specs.{ByColour.of_colour, declared.man.Colour.Colour, declared.man.Colour.TheVariants.White, declared.man.Colour.TheVariants.Black, declared.man.Move.Move, Men.other}
use Rattle.cecp_engine.specs.Items.{Item, last_said}
use Rattle.chess_game.specs.{Game.Seen, Game.State, Results.cut_tag, Results.same_outcome, declared.game.TheConstants.MOST_MOVES, declared.results.Outcome.Outcome, declared.results.Outcome.TheVariants.Draw, declared.results.Outcome.TheVariants.Unfinished, declared.tags.HowEnded.HowEnded, Ends.verdict}
use Rattle.chess_match.specs.{Acts.Act, laws.Laws.is_broken, laws.Laws.notes_given, Effects.Match, Effects.Over, Notes.Note, Played.Passed, Rules.Rules, Rules.rules_of, declared.reason.Reason.Reason}
use Rattle.chess_match.specs.Reasons.{declared_at, ended_by, outcome_by_reason, reported_fault, reported_reason, win_of}
use Rattle.pgn_writer.specs.GameText.{pgn}
use Rattle.chess_match.specs.declared.games_plan.GamesPlan.{GamesPlan}
use Rattle.match_runner.specs.Log.{log_from}
use Rattle.match_runner.specs.Games.{GameRecord, IsOfPlan, count_of, engine_command, first_side, game_text, game_texts, player_name, score_line, setup_of}
use Rattle.match_runner_laws.specs.{Entries.IsShown, Entries.entries_from, ReadBack.AreAlike, ReadBack.LogsGiveTheOutput, ReadBack.LogsGiveThePgn}
use Rattle.match_runner_laws.proofs.LogsRead.{logs_give_the_game}

-- the score's line by its four numbers; it is kept closed, so that counts can be replaced in it
unfoldable line_of : ℕ → ℕ → ℕ → ℕ → List ℕ
line_of first second drawn unfinished =
    codes "score first " ++ decimal first ++ codes " second " ++ decimal second
    ++ codes " drawn " ++ decimal drawn ++ codes " unfinished " ++ decimal unfinished ++ new_line ∷ []

-- the line of the score of these games
score_line_is : (games : List GameRecord) → line_of (count_of (λ number. win_of (first_side number)) games)
    (count_of (λ number. win_of (other (first_side number))) games)
    (count_of (λ number. Draw) games) (count_of (λ number. Unfinished) games) ≡ score_line games
unfolding line_of
score_line_is games = refl

-- the rules of the plan's game of this number
abbrev pub rules : GamesPlan → ℕ → Rules
rules plan number = rules_of plan.start (of_colour (setup_of plan number).levels) plan.patience plan.draws MOST_MOVES

-- the game that a match of these moves leaves, if it ended for this reason
abbrev pub left : GamesPlan → Reason → List Move → State
left plan reason moves = record {
  start = plan.start;
  moves = moves;
  declared = declared_at (verdict plan.start moves) reason;
}

-- the reason that is reported of a match of these moves, if it ended for this reason
abbrev pub reason_shown : GamesPlan → Reason → List Move → Reason
reason_shown plan reason moves = reported_reason (verdict plan.start moves) reason

-- an engine's name, by its items
abbrev pub named : List Item → List ℕ
named items = cut_tag (last_said (λ v. v.text) [] (codes "myname") items)

-- a match of these acts was played, ended for this reason and was reported
pub record IsPlayed (plan : GamesPlan) (number : ℕ) (played : GameRecord) (H : List Act) (reason : Reason) (final : Match) : Type 0 where
  pub passed : Passed (rules plan number) H final played.before played.after
  pub over : final.phase ≡ Over reason
  pub notes : notes_given reason H ≡ played.notes
  pub outcome : played.end.outcome ≡ outcome_by_reason (reason_shown plan reason final.played)
  pub ended : played.end.ended ≡ ended_by (reason_shown plan reason final.played)
  pub white : played.end.white_name ≡ named (final.seat White).items
  pub black : played.end.black_name ≡ named (final.seat Black).items
  pub fault : played.end.fault ≡ reported_fault reason (is_broken H)
  pub game : played.after.game.state ≡ left plan reason final.played

-- each game of the plan was played so, by acts that have the notes of its record
pub is_played : (plan : GamesPlan) (number : ℕ) (played : GameRecord) → IsOfPlan plan number played
    → (H : List Act) × (reason : Reason) × (final : Match) × IsPlayed plan number played H reason final
is_played plan number played (limit, spared, (H, reason, notes, (final, passed, reported, game))) = (
  H,
  reason,
  final,
  record {
    passed = subst
        (λ (n : ℕ). Passed (rules_of plan.start (of_colour (setup_of plan number).levels) plan.patience plan.draws n) H
        final played.before played.after)
        limit passed;
    over = reported.ended;
    notes = notes;
    outcome = sym (ap (λ (t : Outcome × List ℕ × HowEnded). t.0) reported.report);
    ended = sym (ap (λ (t : Outcome × List ℕ × HowEnded). t.2) reported.report);
    white = reported.name White;
    black = reported.name Black;
    fault = reported.fault;
    game = subst (λ (n : ℕ). played.after.game.state ≡ (let s : State = record {
      start = plan.start;
      moves = final.played;
      declared = declared_at (verdict plan.start final.played) reason;
    } in s)) limit (ap (λ (g : Seen). g.state) game);
  },
)

-- the text of a game by its names, its end and its state
abbrev text_by : GamesPlan → ℕ → List ℕ → List ℕ → HowEnded → State → List ℕ
text_by plan number white black ended state = pgn [] (record {
  event = codes "CECP match";
  site = codes "?";
  date = cut_tag plan.date.now;
  round = cut_tag (decimal number);
  white = player_name white (engine_command plan number White);
  black = player_name black (engine_command plan number Black);
  ended = ended;
}) state

pub text_is : (plan : GamesPlan) (number : ℕ) (w w' b b' : List ℕ) (e e' : HowEnded) (s s' : State) → w ≡ w' → b ≡ b'
    → e ≡ e' → s ≡ s' → text_by plan number w b e s ≡ text_by plan number w' b' e' s'
text_is plan number w w' b b' e e' s s' p q r t =
    ap (λ (v : List ℕ). text_by plan number v b e s) p ∙ ap (λ (v : List ℕ). text_by plan number w' v e s) q
    ∙ ap (λ (v : HowEnded). text_by plan number w' b' v s) r ∙ ap (λ (v : State). text_by plan number w' b' e' v) t

-- from the same log follow the same moves, items and reason (LogsRead.logs_give_the_game), so the same names, end and
-- text
pub logs_give_the_pgn : LogsGiveThePgn
logs_give_the_pgn plan number one two h k plain plain' same =
    let first : Colour = first_side number in
    let (H, reason, final, p) = is_played plan number one h in
    let (K, reason', final', q) = is_played plan number two k in
    let shown : AllByRecursion IsShown (entries_from 0 (notes_given reason H)) =
    subst (λ (l : List Note). AllByRecursion IsShown (entries_from 0 l)) (sym p.notes) plain in
    let shown' : AllByRecursion IsShown (entries_from 0 (notes_given reason' K)) =
    subst (λ (l : List Note). AllByRecursion IsShown (entries_from 0 l)) (sym q.notes) plain' in
    let a : AreAlike reason reason' H K final final' =
    logs_give_the_game (rules plan number) first reason reason' H K final final' p.passed.is_match q.passed.is_match
    p.over q.over shown shown'
    (ap (λ (l : List Note). log_from first 0 l) p.notes ∙ same
    ∙ sym (ap (λ (l : List Note). log_from first 0 l) q.notes)) in
    let reported : reason_shown plan reason final.played ≡ reason_shown plan reason' final'.played =
    ap (λ (x : Reason). reason_shown plan x final.played) a.reasons ∙ ap (λ (ms : List Move). reason_shown plan reason' ms) a.moves in (
      text_is plan number one.end.white_name two.end.white_name one.end.black_name two.end.black_name one.end.ended
          two.end.ended one.after.game.state two.after.game.state
          (p.white ∙ ap named (a.items White) ∙ sym q.white) (p.black ∙ ap named (a.items Black) ∙ sym q.black)
          (p.ended ∙ ap ended_by reported ∙ sym q.ended)
          (p.game ∙ ap (λ (x : Reason). left plan x final.played) a.reasons
          ∙ ap (λ (ms : List Move). left plan reason' ms) a.moves ∙ sym q.game),
      p.outcome ∙ ap outcome_by_reason reported ∙ sym q.outcome,
    )

-- ---- all games of a match

-- two games, each with its number, have the same number, PGN and outcome
pub record AreAsOne (plan : GamesPlan) (g h : ℕ × GameRecord) : Type 0 where
  pub numbers : g.0 ≡ h.0
  pub texts : game_text plan g.0 g.1 ≡ game_text plan h.0 h.1
  pub outcomes : g.1.end.outcome ≡ h.1.end.outcome

-- two lists of games are alike, one game after another
abbrev pub Alike : GamesPlan → List (ℕ × GameRecord) → List (ℕ × GameRecord) → Type 0
Alike plan [] [] = ⊤
Alike plan (g ∷ gs) (h ∷ hs) = AreAsOne plan g h × Alike plan gs hs
Alike plan _ _ = ⊥

-- a game of the plan whose log shows its lines as they are
abbrev IsOfLog : GamesPlan → ℕ × GameRecord → Type 0
IsOfLog plan g = IsOfPlan plan g.0 g.1 × AllByRecursion IsShown (entries_from 0 g.1.notes)

-- the log of a game by its number
abbrev log_of : ℕ × GameRecord → List ℕ
log_of g = log_from (first_side g.0) 0 g.1.notes

-- games that are alike have the same PGN, joined
pub texts_alike : (plan : GamesPlan) (gs hs : List (ℕ × GameRecord)) → Alike plan gs hs
    → flat_map (λ g. game_text plan g.0 g.1) gs ≡ flat_map (λ g. game_text plan g.0 g.1) hs
texts_alike plan [] [] a = refl
texts_alike plan (g ∷ gs) (h ∷ hs) (one, more) =
    ap (λ (l : List ℕ). l ++ flat_map (λ g. game_text plan g.0 g.1) gs) one.texts
    ∙ ap (λ (l : List ℕ). game_text plan h.0 h.1 ++ l) (texts_alike plan gs hs more)
texts_alike plan gs hs a = absurd a

-- a game more is counted, or not
abbrev counted : (ℕ → Outcome) → ℕ → ℕ × GameRecord → ℕ
counted wanted n g = n + cond (same_outcome g.1.end.outcome (wanted g.0)) 1 0

-- of two lists of games that are alike, equally many have a wanted outcome
counts_alike : (plan : GamesPlan) (wanted : ℕ → Outcome) (n : ℕ) (gs hs : List (ℕ × GameRecord)) → Alike plan gs hs
    → fold (counted wanted) n gs ≡ fold (counted wanted) n hs
counts_alike plan wanted n [] [] a = refl
counts_alike plan wanted n (g ∷ gs) (h ∷ hs) (one, more) =
    counts_alike plan wanted (counted wanted n g) gs hs more
    ∙ ap (λ (k : ℕ). fold (counted wanted) k hs)
    (ap (λ (o : Outcome). n + cond (same_outcome o (wanted g.0)) 1 0) one.outcomes
    ∙ ap (λ (k : ℕ). n + cond (same_outcome h.1.end.outcome (wanted k)) 1 0) one.numbers)
counts_alike plan wanted n gs hs a = absurd a

module _ (plan : GamesPlan) where
  all_alike : (number : ℕ) (games games' : List GameRecord)
      → AllByRecursion (IsOfLog plan) (enumerate_from number games)
      → AllByRecursion (IsOfLog plan) (enumerate_from number games')
      → map log_of (enumerate_from number games) ≡ map log_of (enumerate_from number games')
      → Alike plan (enumerate_from number games) (enumerate_from number games')
  all_alike number [] [] h k same = tt
  all_alike number (g ∷ gs) (g' ∷ gs') (h, hs) (k, ks) same =
      let head : log_of (number, g) ≡ log_of (number, g') = cc in
      let rest : map log_of (enumerate_from (number + 1) gs) ≡ map log_of (enumerate_from (number + 1) gs') = cc in
      let p = logs_give_the_pgn plan number g g' h.0 k.0 h.1 k.1 head in (
        record { numbers = refl; texts = p.0; outcomes = p.1 },
        all_alike (number + 1) gs gs' hs ks rest,
      )
  all_alike number gs gs' h k same = absurd cc

-- what a match writes of games that are alike
pub written_alike : (plan : GamesPlan) (games games' : List GameRecord)
    → Alike plan (enumerate_from 1 games) (enumerate_from 1 games')
    → game_texts plan games ++ score_line games ≡ game_texts plan games' ++ score_line games'
written_alike plan games games' a =
    let counts : (wanted : ℕ → Outcome) → count_of wanted games ≡ count_of wanted games' =
    λ wanted. counts_alike plan wanted 0 (enumerate_from 1 games) (enumerate_from 1 games') a in
    ap (λ (l : List ℕ). l ++ score_line games)
    (texts_alike plan (enumerate_from 1 games) (enumerate_from 1 games') a)
    ∙ ap (λ (line : List ℕ). game_texts plan games' ++ line)
    (sym (score_line_is games) ∙ line_is _ _ _ _ _ _ _ _
    (counts (λ number. win_of (first_side number))) (counts (λ number. win_of (other (first_side number))))
    (counts (λ number. Draw)) (counts (λ number. Unfinished)) ∙ score_line_is games')
  where
    line_is : (a a' b b' c c' d d' : ℕ) → a ≡ a' → b ≡ b' → c ≡ c' → d ≡ d' → line_of a b c d ≡ line_of a' b' c' d'
    line_is a a' b b' c c' d d' e f g h = cc

pub logs_give_the_output : LogsGiveTheOutput
logs_give_the_output plan games games' h k same = written_alike plan games games' (all_alike plan 1 games games' h k same)
