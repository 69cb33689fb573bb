-- The moves of the game are those of the match, so code and definition take the same of four cases: the game is full,
-- the text denotes no legal move, the position after the move ends the match, or the match goes on with a `ping`. After
-- a move the core represents the match with that move (CoreSteps.moved_stands).
use Rattle.std.proofs.Common.{◌≡◌, ◌∙◌, ap, [], ◌∷◌, ◌++◌, true, false, refl, sym, Some, None, length, nat_le}
use Rattle.chess_match.specs.{Effects.moved, Effects.over_by_position, declared.state.MatchState.MatchState}
use Rattle.chess_match.proofs.{CoreSteps.moved_stands, CoreSteps.over_by_goes, CoreSteps.pinged_goes, OtherLines.illegal_move}
use Rattle.chess_match.proofs.state.MatchState.move_line.Goals as goal
use Rattle.chess_game.specs.Line.{position_after}
use Rattle.chess_text.specs.Moves.{reading}
use Rattle.chess_text.specs.declared.reading.Reading.TheVariants as reads

pub returns-then-is_full-clause-goes : goal.returns-then-is_full-clause-goes
returns-then-is_full-clause-goes g c r m p on s =
    let full : nat_le r.limit (length m.played) ≡ true = rw (← s.moves) (sym (c.if-is_full.ensures.value r p)) in
    rw full (c.finish.ensures r _ m on s)

pub returns-in_default-clause-goes : goal.returns-in_default-clause-goes
returns-in_default-clause-goes g c r m p on s =
    let full : nat_le r.limit (length m.played) ≡ false = rw (← s.moves) (sym (c.if-is_full.ensures.value r p)) in
    let says : reading (position_after r.start m.played) c.args.text.now ≡ c.reading.result =
    rw (← s.moves) (sym (c.reading.ensures r p)) in
    rw (full, says, illegal_move r c.args.side c.args.used _ m c.in_default.not-Move)
    (c.finish-in_default.ensures r _ m on s)

pub returns-in-Some-clause-goes : goal.returns-in-Some-clause-goes
returns-in-Some-clause-goes g c r m p on s =
    let full : nat_le r.limit (length m.played) ≡ false = rw (← s.moves) (sym (c.if-is_full.ensures.value r p)) in
    let says : reading (position_after r.start m.played) c.args.text.now ≡ reads.Move c.in-Move.chosen =
    rw (← s.moves) (sym (c.in-Move.ensures r p)) in
    let now : g.G.MatchGame.played c.play-texts.new.self ≡ m.played ++ c.in-Move.chosen ∷ [] =
    rw (← s.moves) c.play-texts.ensures.moves in
    let over : over_by_position r (m.played ++ c.in-Move.chosen ∷ []) ≡ Some c.in-Some.reason =
    ap (over_by_position r) (sym now) ∙ sym (c.in-Some.ensures r (c.play-texts.ensures.rules r p)
    (ap (λ (x : MatchState). x.draws) c.note_move.ensures ∙ s.draws)) in
    let stands = moved_stands r c.args.self.now (g.G.MatchGame.played c.args.game.now) c.args.side c.in-Move.chosen
    c.args.used m c.play-texts.result s (rw c.play-texts.ensures.moves at (c.play-texts.ensures.texts r p)) in
    rw (full, says, c.play-texts.ensures.moves)
    (over_by_goes r _ _ _ _ (moved c.args.side c.in-Move.chosen c.args.used m) _ _ over
    (c.finish-in-Some.ensures r _ (moved c.args.side c.in-Move.chosen c.args.used m) refl
    (rw c.note_move.ensures stands)))

pub returns-in-None-clause-goes : goal.returns-in-None-clause-goes
returns-in-None-clause-goes g c r m p on s =
    let full : nat_le r.limit (length m.played) ≡ false = rw (← s.moves) (sym (c.if-is_full.ensures.value r p)) in
    let says : reading (position_after r.start m.played) c.args.text.now ≡ reads.Move c.in-Move.chosen =
    rw (← s.moves) (sym (c.in-Move.ensures r p)) in
    let now : g.G.MatchGame.played c.play-texts.new.self ≡ m.played ++ c.in-Move.chosen ∷ [] =
    rw (← s.moves) c.play-texts.ensures.moves in
    let over : over_by_position r (m.played ++ c.in-Move.chosen ∷ []) ≡ None =
    ap (over_by_position r) (sym now) ∙ sym (c.in-None.ensures r (c.play-texts.ensures.rules r p)
    (ap (λ (x : MatchState). x.draws) c.note_move.ensures ∙ s.draws)) in
    let stands = moved_stands r c.args.self.now (g.G.MatchGame.played c.args.game.now) c.args.side c.in-Move.chosen
    c.args.used m c.play-texts.result s (rw c.play-texts.ensures.moves at (c.play-texts.ensures.texts r p)) in
    rw (full, says, c.play-texts.ensures.moves, c.note_move.ensures)
    (over_by_goes r _ _ _ _ (moved c.args.side c.in-Move.chosen c.args.used m) _ _ over
    (pinged_goes r _ _ c.args.side (moved c.args.side c.in-Move.chosen c.args.used m) refl stands))
