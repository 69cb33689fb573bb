-- On positions of normal chess the rules for both variants agree with those for normal chess alone (normal_kept;
-- specs/Normal). The two differ only in how a move names its castling (`says_kept`); each lemma after it carries this
-- on to the next definition: the castling (castling_kept), its squares, pseudo-legal moves, the position after a move,
-- legal moves.
use Rattle.std.proofs.Common.{◌≡◌, ℕ, Bool, true, false, ◌&&◌, cond, ◌==◌, nat_lt, Option, Some, None, is_some, map, refl, ap, ◌∙◌, arith}
use Rattle.chess_base.specs.{declared.man.Colour.Colour, declared.man.CastlingSide.CastlingSide, declared.man.CastlingSide.TheVariants.KingSide, declared.man.CastlingSide.TheVariants.QueenSide, declared.man.Kind.TheVariants.King, declared.man.Kind.TheVariants.Pawn, declared.man.Man.Man, declared.man.Move.Move, declared.man.Variant.TheVariants.Normal, declared.setup.Setup.Setup, shared.Splits.castles_or_moves, shared.Splits.names_castling, shared.Splits.right_is_sound_at, Before.castle_by, Squares.squares}
use Rattle.chess_base.specs.Men.{Men, man_at, is_man, same_colour, same_kind, other}
use Rattle.chess_base.specs.Moves.{moves_as, is_pseudo_legal, pawn_moves, after_castling, after_moving, men_after, rights_after, target_after, halfmove_after, fullmove_after, is_legal, after}
use Rattle.chess_base.specs.Castling.{is_castling_to, castling, castle_of, castled_king_file, right_of, right_is_sound, home_square, king_home_file}
use Rattle.std.specs.Option.{option_map_or}
use Rattle.chess_base_laws.specs.Normal.{normal_right_is_sound_at, normal_says_castling, normal_castling, normal_castle_of, normal_moves_as, normal_has_pattern, normal_men_after, normal_after, normal_is_legal, NormalIsKept}

-- two facts of `&&`, for `says_by`: its tests in another order if there is a right, and false if there is none
in_turn : (a b c : Bool) → (a && (b && c)) ≡ (true && a && b && c)
in_turn a b c = grind arith

never : (a b c : Bool) → (a && false) ≡ (false && a && b && c)
never true b c = refl
never false b c = refl

-- `king`: a king of the side on move is on the start square; `o`: the rook's square of the right, if there is one. Then
-- naming this castling in normal chess is what `normal_says_castling` tests
says_by : (c : Colour) (m : Move) (w : CastlingSide) (king : Bool) (o : Option ℕ)
    → (king && names_castling Normal c m w o)
    ≡ (is_some o && king && (m.from == home_square c king_home_file)
    && (m.to == home_square c (castled_king_file w)))
says_by c m w king None = never king (m.from == home_square c king_home_file)
    (m.to == home_square c (castled_king_file w))
says_by c m w king (Some rook) = in_turn king (m.from == home_square c king_home_file)
    (m.to == home_square c (castled_king_file w))

-- in normal chess a move is castling to a side by both definitions, or by neither
says_kept : (p : Setup) → p.variant ≡ Normal → (m : Move) (w : CastlingSide)
    → is_castling_to p m w ≡ normal_says_castling p m w
unfolding is_castling_to normal_says_castling
says_kept p e m w = rw e (says_by p.side m w (is_man p.side King (man_at p.men m.from)) (right_of p.rights p.side w))

-- in normal chess a move castles to the same side by both definitions
pub castling_kept : (p : Setup) → p.variant ≡ Normal → (m : Move) → castling p m ≡ normal_castling p m
unfolding castling normal_castling
castling_kept p e m = rw (says_kept p e m KingSide, says_kept p e m QueenSide) refl

-- so the squares of a move's castling are the same
castle_kept : (p : Setup) → p.variant ≡ Normal → (m : Move) → castle_of p m ≡ normal_castle_of p m
unfolding castle_of normal_castle_of
castle_kept p e m = ap (castle_by p.side p.rights m) (castling_kept p e m)

-- so is whether the piece on the start square can make the move
moves_kept : (p : Setup) → p.variant ≡ Normal → (m : Move) (o : Option Man) → moves_as p m o ≡ normal_moves_as p m o
moves_kept p e m None = refl
moves_kept p e m (Some x) = ap (λ k. same_colour p.side x.colour
    && cond (same_kind Pawn x.kind) (pawn_moves p m) (castles_or_moves p m k)) (castle_kept p e m)

-- so is which moves are pseudo-legal
pattern_kept : (p : Setup) → p.variant ≡ Normal → (m : Move) → is_pseudo_legal p m ≡ normal_has_pattern p m
unfolding is_pseudo_legal normal_has_pattern
pattern_kept p e m = ap (λ b. nat_lt m.from 64 && nat_lt m.to 64 && b) (moves_kept p e m (man_at p.men m.from))

-- so are the pieces after a move
men_kept : (p : Setup) → p.variant ≡ Normal → (m : Move) → men_after p m ≡ normal_men_after p m
unfolding men_after normal_men_after
men_kept p e m =
    ap (λ o. map (λ s. option_map_or (λ k. after_castling p m k s) o (after_moving p m s)) squares) (castle_kept p e m)

-- so is the position after a move
after_kept : (p : Setup) → p.variant ≡ Normal → (m : Move) → after p m ≡ normal_after p m
unfolding after normal_after
after_kept p e m =
    ap (λ (men : Men). record {
      variant = p.variant;
      men = men;
      side = other p.side;
      rights = rights_after p m;
      target = target_after p m;
      halfmove = halfmove_after p m;
      fullmove = fullmove_after p.side p.fullmove;
    })
    (men_kept p e m)
    ∙ ap (λ v. record {
      variant = v;
      men = normal_men_after p m;
      side = other p.side;
      rights = rights_after p m;
      target = target_after p m;
      halfmove = halfmove_after p m;
      fullmove = fullmove_after p.side p.fullmove;
    }) e

-- so is which moves are legal
legal_kept : (p : Setup) → p.variant ≡ Normal → (m : Move) → is_legal p m ≡ normal_is_legal p m
unfolding is_legal normal_is_legal
legal_kept p e m = rw (pattern_kept p e m, after_kept p e m) refl

-- a right (its rook's square, or none) is sound in normal chess by the definition for both variants exactly if it is by
-- the one for normal chess alone
stands_by : (men : Men) (c : Colour) (w : CastlingSide) (o : Option ℕ)
    → right_is_sound_at Normal men c w o ≡ normal_right_is_sound_at men c w o
stands_by men c w None = refl
stands_by men c w (Some s) = refl

-- so is which castling rights are sound: by the definition of `right_is_sound_at`
stands_kept : (p : Setup) → p.variant ≡ Normal → (c : Colour) (w : CastlingSide)
    → right_is_sound p c w ≡ normal_right_is_sound_at p.men c w (right_of p.rights c w)
unfolding right_is_sound
stands_kept p e c w = ap (λ v. right_is_sound_at v p.men c w (right_of p.rights c w)) e
    ∙ stands_by p.men c w (right_of p.rights c w)

-- in normal chess the definitions agree on sound rights, legal moves and the position after a move
pub normal_kept : (p : Setup) → p.variant ≡ Normal → NormalIsKept p
normal_kept p e = record { stands = stands_kept p e; legal = legal_kept p e; after = after_kept p e }
