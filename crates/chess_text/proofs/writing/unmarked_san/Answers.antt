-- A legal move has a description (always_described of SanWritten), so the exit without one isn't reached. Only a pawn
-- promotes (legal_promotes), as `described_text` asks for. Its text with the mark after the move is the SAN of the
-- definition (san_marked).
use Rattle.std.proofs.Common.{ap, ◌∙◌}
use Rattle.chess_text.specs.Moves.{described}
use Rattle.chess_text.proofs.SanWritten.{always_described, legal_promotes, san_marked}
use Rattle.chess_text.proofs.writing.unmarked_san.Goals as goal

pub returns-in_default-clause-text : goal.returns-in_default-clause-text
returns-in_default-clause-text g c = always_described (g.B.Board.position c.args.board.now) c.args.m.now c.requires
    (c.in_default.ensures ∙ ap (λ v. described v c.args.m.now) c.setup.ensures.value)

pub described_text-requires : goal.described_text-requires
described_text-requires g c = record {
  promotes = legal_promotes (g.B.Board.position c.args.board.now) c.args.m.now c.in-Some.d c.requires
      (c.in-Some.ensures ∙ ap (λ v. described v c.args.m.now) c.setup.ensures.value);
}

pub returns-clause-text : goal.returns-clause-text
returns-clause-text g c =
    san_marked (g.B.Board.position c.args.board.now) c.args.m.now c.in-Some.d c.described_text.result.items
    (c.in-Some.ensures ∙ ap (λ v. described v c.args.m.now) c.setup.ensures.value) c.described_text.ensures.text
