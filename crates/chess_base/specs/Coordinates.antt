-- The coordinate text of a move, by which it is shown and parsed.
use Rattle.std.specs.Prelude.{◌≡◌, ◌≢◌, ℕ, ◌<◌, List, [], ◌∷◌, ◌++◌, Result, MatchResult}
use Rattle.std.specs.List.{Contains}
use Rattle.std.specs.Option.{option_map_or}
use Rattle.chess_base.specs.declared.man.Colour.TheVariants.{Black}
use Rattle.chess_base.specs.declared.man.Kind.{Kind}
use Rattle.chess_base.specs.declared.man.Move.{Move}
use Rattle.chess_base.specs.Letters.{letter_by, square_text}
use Rattle.chess_base.specs.MoveList.{promotions}

-- the small letter of a kind of piece, as text: q for a queen
abbrev pub small_letter_text : Kind → List ℕ
small_letter_text k = letter_by Black k ∷ []

-- the coordinate text of a move: e2e4, or with a promotion e7e8q
abbrev pub coordinate : Move → List ℕ
coordinate m = square_text m.from ++ (square_text m.to ++ option_map_or small_letter_text m.promotion [])

-- parsing the text as a square's name gives r: the square, or an error if none of the 64 has that name. Not said: that
-- the square is below 64, and which error it is
abbrev pub ParsesSquare : {E : Type 0} → List ℕ → Result ℕ E → Type 0
ParsesSquare text r = MatchResult r (λ s. text ≡ square_text s) (λ _. (s : ℕ) → s < 64 → text ≢ square_text s)

-- parsing the text as a coordinate gives r: the move with that text, legal or not, its promotion one of `promotions`;
-- or an error if no such move between two of the 64 squares has it. Not said: that its squares are below 64, and which
-- error it is
abbrev pub ParsesMove : {E : Type 0} → List ℕ → Result Move E → Type 0
ParsesMove text r = MatchResult r (λ m. (text ≡ coordinate m) × Contains promotions m.promotion)
    (λ _. (m : Move) → m.from < 64 → m.to < 64 → Contains promotions m.promotion → text ≢ coordinate m)
