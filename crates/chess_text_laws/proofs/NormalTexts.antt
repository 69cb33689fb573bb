-- In positions of normal chess the definitions of moves' texts, which are for both variants, agree with those for
-- normal chess only (normal_kept): in the list of legal moves, what a text is read as, the SAN, and the text in lists
-- of moves. Each is made of parts that agree: whether a move is legal, is castling, and where it leads: by
-- `rules_kept`.
use Rattle.std.proofs.Common.{◌≡◌, ℕ, Bool, not, ◌&&◌, ◌==◌, List, ◌++◌, length, map, filter, codes, Option, Some, None, is_some, refl, ap, ◌∙◌, if◌then◌else◌}
use Rattle.std.proofs.Math.Path.{fun_ext}
use Rattle.std.specs.Option.{option_map, option_map_or}
use Rattle.chess_base.specs.{declared.man.CastlingSide.CastlingSide, declared.man.Man.Man, declared.man.Move.Move, declared.man.Variant.TheVariants.Normal, declared.setup.Setup.Setup, Attacks.is_in_check, Coordinates.coordinate, shared.Parts.optional, Castling.castling, Men.man_at, Men.same_kind, Moves.captured_square, Moves.after, MoveList.all_moves, MoveList.moves, Options.list_if}
use Rattle.chess_base.proofs.shared.After.{variant-after}
use Rattle.chess_base_laws.specs.Normal.{normal_after}
use Rattle.chess_base_laws.proofs.shared.Normal.{normal_kept as rules_kept, castling_kept}
use Rattle.chess_text.specs.{shared.Fitting.passes, declared.described.Described.Described, declared.reading.Reading.TheVariants.NotAMove}
use Rattle.chess_text.specs.Moves.{described, shape, denotes, denotes_described, one_of, reading}
use Rattle.chess_text.specs.San.{rival_starts, check_mark, san, castling_text, piece_text, is_fischerandom, shown_move}
use Rattle.chess_text_laws.specs.Normal.{NormalIsKept, normal_moves, normal_described, normal_denotes, normal_reading, normal_rival_starts, normal_check_mark, normal_san}

-- the lists of legal moves are the same, as each move is legal by both rules or by neither
pub moves_kept : (p : Setup) → p.variant ≡ Normal → moves p ≡ normal_moves p
unfolding moves normal_moves
moves_kept p e = ap (λ (test : Move → Bool). filter test all_moves) (fun_ext (rules_kept p e).legal)

-- ---- read

-- what a text can say of a move, from the piece on its start square and the side to which it castles (o)
abbrev with_castles : Setup → Move → Option Man → Option CastlingSide → Option Described
with_castles p m man o =
    option_map (λ (x : Man). record {
      man = x.kind;
      from = m.from;
      to = m.to;
      promotion = m.promotion;
      captures = is_some (captured_square p m);
      castles = o;
    }) man

described_kept : (p : Setup) → p.variant ≡ Normal → (m : Move) → described p m ≡ normal_described p m
unfolding described normal_described
described_kept p e m = ap (with_castles p m (man_at p.men m.from)) (castling_kept p e m)

denotes_kept : (p : Setup) → p.variant ≡ Normal → (text : List ℕ) (m : Move) → denotes p text m ≡ normal_denotes p text m
unfolding denotes normal_denotes
denotes_kept p e text m = ap (passes (denotes_described text)) (described_kept p e m)

reading_kept : (p : Setup) → p.variant ≡ Normal → (text : List ℕ) → reading p text ≡ normal_reading p text
unfolding reading normal_reading
reading_kept p e text =
    ap (λ (test : Move → Bool). if shape text then one_of (filter test (moves p)) else NotAMove)
    (fun_ext (denotes_kept p e text))
    ∙ ap (λ ms. if shape text then one_of (filter (λ m. normal_denotes p text m) ms) else NotAMove) (moves_kept p e)

-- ---- written

-- the move m, which is described so (`o`), is a rival of d
abbrev is_rival_as : Described → Move → Option Described → Bool
is_rival_as d m o = (m.to == d.to) && not (m.from == d.from) && passes (λ (x : Described). same_kind x.man d.man) o

-- a move is a rival of d by both definitions or by neither
rival_kept : (p : Setup) → p.variant ≡ Normal → (d : Described) (m : Move)
    → is_rival_as d m (described p m) ≡ is_rival_as d m (normal_described p m)
rival_kept p e d m = ap (is_rival_as d m) (described_kept p e m)

rivals_kept : (p : Setup) → p.variant ≡ Normal → (d : Described)
    → rival_starts p (moves p) d ≡ normal_rival_starts p d
unfolding rival_starts normal_rival_starts
rivals_kept p e d =
    ap (λ (test : Move → Bool). map (λ (m : Move). m.from) (filter test (moves p))) (fun_ext (rival_kept p e d))
    ∙ ap (λ ms. map (λ (m : Move). m.from) (filter (λ m. is_rival_as d m (normal_described p m)) ms)) (moves_kept p e)

mark_kept : (p : Setup) → p.variant ≡ Normal → check_mark p ≡ normal_check_mark p
unfolding check_mark normal_check_mark
mark_kept p e =
    ap (λ (ms : List Move). list_if (is_in_check p.men p.side) (if length ms == 0 then codes "#" else codes "+"))
    (moves_kept p e)

-- the mark for check or mate after the move is the same by both definitions
mark_after : (p : Setup) → p.variant ≡ Normal → (m : Move)
    → check_mark (after p m) ≡ normal_check_mark (normal_after p m)
mark_after p e m = mark_kept (after p m) (variant-after p m ∙ e) ∙ ap normal_check_mark ((rules_kept p e).after m)

-- the SAN of a described move, with these rivals, without its mark
abbrev bare_san : List ℕ → Described → List ℕ
bare_san rivals d = option_map_or castling_text d.castles (piece_text rivals d)

-- the SAN is the same by both definitions, by the move's description (o)
san_by : (p : Setup) → p.variant ≡ Normal → (m : Move) (o : Option Described)
    → optional (λ d. bare_san (rival_starts p (moves p) d) d ++ check_mark (after p m)) o
    ≡ optional (λ d. bare_san (normal_rival_starts p d) d ++ normal_check_mark (normal_after p m)) o
san_by p e m None = refl
san_by p e m (Some d) =
    ap (λ starts. bare_san starts d ++ check_mark (after p m)) (rivals_kept p e d)
    ∙ ap (λ mark. bare_san (normal_rival_starts p d) d ++ mark) (mark_after p e m)

san_kept : (p : Setup) → p.variant ≡ Normal → (m : Move) → san p m ≡ normal_san p m
unfolding san normal_san
san_kept p e m =
    san_by p e m (described p m)
    ∙ ap (optional (λ d. bare_san (normal_rival_starts p d) d ++ normal_check_mark (normal_after p m)))
    (described_kept p e m)

-- lists of moves show coordinates, castling too
shown_kept : (p : Setup) → p.variant ≡ Normal → (m : Move) → shown_move p m ≡ coordinate m
unfolding shown_move
shown_kept p e m =
    ap (λ v. if is_fischerandom v then option_map_or castling_text (castling p m) (coordinate m) else coordinate m) e

pub normal_kept : (p : Setup) → p.variant ≡ Normal → NormalIsKept p
normal_kept p e = record {
  moves = moves_kept p e;
  reading = reading_kept p e;
  san = san_kept p e;
  shown = shown_kept p e;
}
