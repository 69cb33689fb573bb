-- If the start has a FEN to be sent, the bytes put are those of the line `setboard FEN`, put in three parts
-- (`in_parts`). It is the FEN of the definition (`start_fen`), since the game has the start of the rules.
use Rattle.std.proofs.Common.{◌≡◌, ℕ, List, [], ◌∷◌, ◌++◌, ap, sym, ◌∙◌, append_assoc, Some}
use Rattle.chess_match.specs.{Rules.Rules, Rules.start_fen, Lines.bytes_of}
use Rattle.chess_match.proofs.game.GameMatchGame.add_start.Goals as goal

-- the parts `setboard `, the FEN and `\n`, put one after the other, are one line after what was put before
in_parts : (items front text : List ℕ) → ((items ++ front) ++ text) ++ 10 ∷ [] ≡ items ++ ((front ++ text) ++ 10 ∷ [])
in_parts items front text =
    ap (λ (l : List ℕ). l ++ 10 ∷ []) (append_assoc items front text) ∙ append_assoc items (front ++ text) (10 ∷ [])

pub returns-in-Some-clause-text : goal.returns-in-Some-clause-text
unfolding bytes_of
returns-in-Some-clause-text g c r p =
    let sent : Some c.in-Some.text.items ≡ start_fen r.start =
    c.in-Some.ensures.text ∙ ap start_fen c.start.ensures ∙ ap (λ (x : Rules). start_fen x.start) (sym p.3) in
    rw (
      ← sent,
      c.append-in-Some-2.ensures.text,
      c.append-in-Some.ensures.text,
      c.append.ensures.text,
      c.as_slice.ensures.value,
    ) (in_parts c.args.block.now.items _ c.in-Some.text.items)
