-- The game accepts the move (Playing.playable), and the move is legal, so its SAN can be begun before it is played
-- (Playing.legal_read). The two texts are those of the last move: the check mark, which is added after the move, is
-- that of the position after it (LastMoves.texts_of_last).
use Rattle.std.proofs.Common.{◌≡◌, List, [], ◌∷◌, ◌++◌, ap, sym, ◌∙◌}
use Rattle.chess_base.specs.{declared.man.Move.Move, declared.setup.Setup.Setup, Moves.after}
use Rattle.chess_game.specs.Game as game
use Rattle.chess_game.specs.Game.{current}
use Rattle.chess_text.specs.San.{check_mark, san, shown_move}
use Rattle.chess_match.specs.Rules.{Rules, text_of_last}
use Rattle.chess_match.proofs.{LastMoves.texts_of_last, Playing.legal_read, Playing.playable}
use Rattle.chess_match.proofs.game.GameMatchGame.play.Goals as goal

pub play_legal-requires : goal.play_legal-requires
play_legal-requires g c = playable c.read_moves_are_legal.ensures c.args.self.now c.requires.0 c.requires.1
    c.args.chosen c.requires.2 c.requires.3 c.requires.4 c.requires.5

pub unmarked_san-san-requires : goal.unmarked_san-san-requires
unmarked_san-san-requires g c = rw c.board.ensures
    (legal_read c.read_moves_are_legal.ensures c.args.self.now c.requires.0 c.requires.1 c.args.chosen c.requires.2
    c.requires.5)

pub returns-clause-texts : goal.returns-clause-texts
returns-clause-texts g c r p as_san =
    let start : Setup = c.args.self.now.state.start in
    let before : List Move = c.args.self.now.state.moves in
    let moves : c.play_legal.new.self.state.moves ≡ before ++ c.args.chosen ∷ [] =
    ap (λ (x : game.Seen). x.state.moves) c.play_legal.ensures in
    texts_of_last start before c.args.chosen c.unmarked_san-san.result.items c.add_check_mark.new.text.items
    c.move_text-squares.result.items _
    (c.board-2.ensures ∙ ap (λ (x : game.Seen). current x.state) c.play_legal.ensures)
    (ap (λ (q : Setup). c.unmarked_san-san.result.items ++ check_mark (after q c.args.chosen)) (sym c.board.ensures)
    ∙ c.unmarked_san-san.ensures.text ∙ ap (λ (q : Setup). san q c.args.chosen) c.board.ensures)
    c.add_check_mark.ensures.text
    (c.move_text-squares.ensures.text ∙ ap (λ (q : Setup). shown_move q c.args.chosen) c.position.ensures.value) as_san
    ∙ ap (λ (ms : List Move). text_of_last as_san start ms) (sym moves)
    ∙ ap (λ (x : Rules). text_of_last as_san x.start c.play_legal.new.self.state.moves) (sym p.3)
