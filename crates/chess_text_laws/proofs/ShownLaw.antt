-- The text by which lists of moves show a legal move (`shown_move`: coordinates, or in Chess960 `O-O` or `O-O-O` for
-- castling) denotes this move alone of the legal ones (shown_alone), has a move's shape (shown_shape), and so is read
-- as it (shown_read). By cases of variant and castling, from the lemmas for coordinates and for castling of chess_text.
use Rattle.std.proofs.Common.{◌≡◌, Option, Some, None, refl, IsTrue, if◌then◌else◌}
use Rattle.std.specs.Option.{option_map_or}
use Rattle.chess_base.specs.{declared.man.CastlingSide.CastlingSide, declared.man.Move.Move, declared.man.Variant.Variant, declared.man.Variant.TheVariants.Normal, declared.man.Variant.TheVariants.Fischerandom, declared.setup.Setup.Setup, Coordinates.coordinate, Castling.castling, Moves.is_legal, Sound.IsSound}
use Rattle.chess_text.specs.declared.reading.Reading.TheVariants as reads
use Rattle.chess_text.specs.{laws.Laws.DenotesAlone, Moves.shape, Moves.reading, San.castling_text, San.is_fischerandom, San.shown_move}
use Rattle.chess_text.proofs.shared.Denoting.{read_alone, coordinate_alone, coordinate_shape, legal_move, Law, castling_law, bare_castling}

-- coordinates have a move's shape, and denote the move alone
by_squares : (p : Setup) (m : Move) → IsTrue (is_legal p m) → Law p m (coordinate m)
by_squares p m legal = record { has_shape = coordinate_shape p m legal; alone = coordinate_alone p m legal }

-- the shown text has a move's shape and denotes the move alone, by variant and by the side to which the move castles
-- (o)
law_by : (p : Setup) (m : Move) → IsSound p → IsTrue (is_legal p m) → (v : Variant) (o : Option CastlingSide)
    → castling p m ≡ o
    → Law p m (if is_fischerandom v then option_map_or castling_text o (coordinate m) else coordinate m)
law_by p m sound legal Normal o e = by_squares p m legal
law_by p m sound legal Fischerandom None e = by_squares p m legal
law_by p m sound legal Fischerandom (Some w) e = castling_law p m (castling_text w) w sound (legal_move p m legal) e
    (bare_castling w)

law : (p : Setup) (m : Move) → IsSound p → IsTrue (is_legal p m) → Law p m (shown_move p m)
unfolding shown_move
law p m sound legal = law_by p m sound legal p.variant (castling p m) refl

pub shown_alone : (p : Setup) (m : Move) → IsSound p → IsTrue (is_legal p m) → DenotesAlone p (shown_move p m) m
shown_alone p m sound legal = (law p m sound legal).alone

pub shown_shape : (p : Setup) (m : Move) → IsSound p → IsTrue (is_legal p m) → IsTrue (shape (shown_move p m))
shown_shape p m sound legal = (law p m sound legal).has_shape

pub shown_read : (p : Setup) (m : Move) → IsSound p → IsTrue (is_legal p m) → reading p (shown_move p m) ≡ reads.Move m
shown_read p m sound legal = read_alone p (shown_move p m) m legal (shown_shape p m sound legal)
    (shown_alone p m sound legal)
