-- The positions of the law `fens_are_worked_out`.
use Rattle.std.specs.Prelude.{[], ◌∷◌, ◌++◌, replicate, None}
use Rattle.chess_base.specs.declared.man.Colour.TheVariants.{White, Black}
use Rattle.chess_base.specs.declared.man.Kind.TheVariants.{Pawn, Rook, King}
use Rattle.chess_base.specs.declared.man.Variant.TheVariants.{Normal}
use Rattle.chess_base.specs.declared.setup.Setup.{Setup}
use Rattle.chess_base.specs.Castling.{rights_by}
use Rattle.chess_base.specs.Initial.{man_of}
use Rattle.chess_base.specs.Men.{Men}

-- White's king on e1 and pawn on e2, Black's king on e8
abbrev pub kings_and_pawn_men : Men
kings_and_pawn_men = replicate 4 None ++ (man_of White King ∷ (replicate 7 None ++ (man_of White Pawn
    ∷ (replicate 47 None ++ (man_of Black King ∷ replicate 3 None)))))

-- a position of normal chess with `kings_and_pawn_men`: Black on move, no rights, no target, halfmove clock 5, fullmove
-- 39
abbrev pub kings_and_pawn : Setup
kings_and_pawn = record {
  variant = Normal;
  men = kings_and_pawn_men;
  side = Black;
  rights = rights_by (λ c w. None);
  target = None;
  halfmove = 5;
  fullmove = 39;
}

-- White's king on c1 and rooks on b1, f1 and h1, and nothing else
abbrev pub three_rooks : Men
three_rooks = None ∷ man_of White Rook ∷ man_of White King ∷ None ∷ None ∷ man_of White Rook ∷ None ∷ man_of White Rook
    ∷ replicate 56 None

-- Black's king on c8 and rooks on b8, f8 and h8, and nothing else
abbrev pub black_rooks : Men
black_rooks = replicate 56 None ++ (None ∷ man_of Black Rook ∷ man_of Black King ∷ None ∷ None ∷ man_of Black Rook
    ∷ None ∷ man_of Black Rook ∷ [])
