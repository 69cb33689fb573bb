-- What a knight, a king and a pawn attack from each square, as plain lists of names.
use Rattle.std.specs.Prelude.{ℕ, List, [], ◌∷◌, codes}

-- each square, and those that a knight on it attacks (3.6)
abbrev pub knight_table : List (List ℕ)
knight_table =
    codes "a1: c2 b3" ∷ codes "b1: d2 a3 c3" ∷
    codes "c1: a2 e2 b3 d3" ∷ codes "d1: b2 f2 c3 e3" ∷
    codes "e1: c2 g2 d3 f3" ∷ codes "f1: d2 h2 e3 g3" ∷
    codes "g1: e2 f3 h3" ∷ codes "h1: f2 g3" ∷
    codes "a2: c1 c3 b4" ∷ codes "b2: d1 d3 a4 c4" ∷
    codes "c2: a1 e1 a3 e3 b4 d4" ∷ codes "d2: b1 f1 b3 f3 c4 e4" ∷
    codes "e2: c1 g1 c3 g3 d4 f4" ∷ codes "f2: d1 h1 d3 h3 e4 g4" ∷
    codes "g2: e1 e3 f4 h4" ∷ codes "h2: f1 f3 g4" ∷
    codes "a3: b1 c2 c4 b5" ∷ codes "b3: a1 c1 d2 d4 a5 c5" ∷
    codes "c3: b1 d1 a2 e2 a4 e4 b5 d5" ∷ codes "d3: c1 e1 b2 f2 b4 f4 c5 e5" ∷
    codes "e3: d1 f1 c2 g2 c4 g4 d5 f5" ∷ codes "f3: e1 g1 d2 h2 d4 h4 e5 g5" ∷
    codes "g3: f1 h1 e2 e4 f5 h5" ∷ codes "h3: g1 f2 f4 g5" ∷
    codes "a4: b2 c3 c5 b6" ∷ codes "b4: a2 c2 d3 d5 a6 c6" ∷
    codes "c4: b2 d2 a3 e3 a5 e5 b6 d6" ∷ codes "d4: c2 e2 b3 f3 b5 f5 c6 e6" ∷
    codes "e4: d2 f2 c3 g3 c5 g5 d6 f6" ∷ codes "f4: e2 g2 d3 h3 d5 h5 e6 g6" ∷
    codes "g4: f2 h2 e3 e5 f6 h6" ∷ codes "h4: g2 f3 f5 g6" ∷
    codes "a5: b3 c4 c6 b7" ∷ codes "b5: a3 c3 d4 d6 a7 c7" ∷
    codes "c5: b3 d3 a4 e4 a6 e6 b7 d7" ∷ codes "d5: c3 e3 b4 f4 b6 f6 c7 e7" ∷
    codes "e5: d3 f3 c4 g4 c6 g6 d7 f7" ∷ codes "f5: e3 g3 d4 h4 d6 h6 e7 g7" ∷
    codes "g5: f3 h3 e4 e6 f7 h7" ∷ codes "h5: g3 f4 f6 g7" ∷
    codes "a6: b4 c5 c7 b8" ∷ codes "b6: a4 c4 d5 d7 a8 c8" ∷
    codes "c6: b4 d4 a5 e5 a7 e7 b8 d8" ∷ codes "d6: c4 e4 b5 f5 b7 f7 c8 e8" ∷
    codes "e6: d4 f4 c5 g5 c7 g7 d8 f8" ∷ codes "f6: e4 g4 d5 h5 d7 h7 e8 g8" ∷
    codes "g6: f4 h4 e5 e7 f8 h8" ∷ codes "h6: g4 f5 f7 g8" ∷
    codes "a7: b5 c6 c8" ∷ codes "b7: a5 c5 d6 d8" ∷
    codes "c7: b5 d5 a6 e6 a8 e8" ∷ codes "d7: c5 e5 b6 f6 b8 f8" ∷
    codes "e7: d5 f5 c6 g6 c8 g8" ∷ codes "f7: e5 g5 d6 h6 d8 h8" ∷
    codes "g7: f5 h5 e6 e8" ∷ codes "h7: g5 f6 f8" ∷
    codes "a8: b6 c7" ∷ codes "b8: a6 c6 d7" ∷
    codes "c8: b6 d6 a7 e7" ∷ codes "d8: c6 e6 b7 f7" ∷
    codes "e8: d6 f6 c7 g7" ∷ codes "f8: e6 g6 d7 h7" ∷
    codes "g8: f6 h6 e7" ∷ codes "h8: g6 f7" ∷ []

-- each square, and those that a king on it attacks (3.8.1)
abbrev pub king_table : List (List ℕ)
king_table =
    codes "a1: b1 a2 b2" ∷ codes "b1: a1 c1 a2 b2 c2" ∷
    codes "c1: b1 d1 b2 c2 d2" ∷ codes "d1: c1 e1 c2 d2 e2" ∷
    codes "e1: d1 f1 d2 e2 f2" ∷ codes "f1: e1 g1 e2 f2 g2" ∷
    codes "g1: f1 h1 f2 g2 h2" ∷ codes "h1: g1 g2 h2" ∷
    codes "a2: a1 b1 b2 a3 b3" ∷ codes "b2: a1 b1 c1 a2 c2 a3 b3 c3" ∷
    codes "c2: b1 c1 d1 b2 d2 b3 c3 d3" ∷ codes "d2: c1 d1 e1 c2 e2 c3 d3 e3" ∷
    codes "e2: d1 e1 f1 d2 f2 d3 e3 f3" ∷ codes "f2: e1 f1 g1 e2 g2 e3 f3 g3" ∷
    codes "g2: f1 g1 h1 f2 h2 f3 g3 h3" ∷ codes "h2: g1 h1 g2 g3 h3" ∷
    codes "a3: a2 b2 b3 a4 b4" ∷ codes "b3: a2 b2 c2 a3 c3 a4 b4 c4" ∷
    codes "c3: b2 c2 d2 b3 d3 b4 c4 d4" ∷ codes "d3: c2 d2 e2 c3 e3 c4 d4 e4" ∷
    codes "e3: d2 e2 f2 d3 f3 d4 e4 f4" ∷ codes "f3: e2 f2 g2 e3 g3 e4 f4 g4" ∷
    codes "g3: f2 g2 h2 f3 h3 f4 g4 h4" ∷ codes "h3: g2 h2 g3 g4 h4" ∷
    codes "a4: a3 b3 b4 a5 b5" ∷ codes "b4: a3 b3 c3 a4 c4 a5 b5 c5" ∷
    codes "c4: b3 c3 d3 b4 d4 b5 c5 d5" ∷ codes "d4: c3 d3 e3 c4 e4 c5 d5 e5" ∷
    codes "e4: d3 e3 f3 d4 f4 d5 e5 f5" ∷ codes "f4: e3 f3 g3 e4 g4 e5 f5 g5" ∷
    codes "g4: f3 g3 h3 f4 h4 f5 g5 h5" ∷ codes "h4: g3 h3 g4 g5 h5" ∷
    codes "a5: a4 b4 b5 a6 b6" ∷ codes "b5: a4 b4 c4 a5 c5 a6 b6 c6" ∷
    codes "c5: b4 c4 d4 b5 d5 b6 c6 d6" ∷ codes "d5: c4 d4 e4 c5 e5 c6 d6 e6" ∷
    codes "e5: d4 e4 f4 d5 f5 d6 e6 f6" ∷ codes "f5: e4 f4 g4 e5 g5 e6 f6 g6" ∷
    codes "g5: f4 g4 h4 f5 h5 f6 g6 h6" ∷ codes "h5: g4 h4 g5 g6 h6" ∷
    codes "a6: a5 b5 b6 a7 b7" ∷ codes "b6: a5 b5 c5 a6 c6 a7 b7 c7" ∷
    codes "c6: b5 c5 d5 b6 d6 b7 c7 d7" ∷ codes "d6: c5 d5 e5 c6 e6 c7 d7 e7" ∷
    codes "e6: d5 e5 f5 d6 f6 d7 e7 f7" ∷ codes "f6: e5 f5 g5 e6 g6 e7 f7 g7" ∷
    codes "g6: f5 g5 h5 f6 h6 f7 g7 h7" ∷ codes "h6: g5 h5 g6 g7 h7" ∷
    codes "a7: a6 b6 b7 a8 b8" ∷ codes "b7: a6 b6 c6 a7 c7 a8 b8 c8" ∷
    codes "c7: b6 c6 d6 b7 d7 b8 c8 d8" ∷ codes "d7: c6 d6 e6 c7 e7 c8 d8 e8" ∷
    codes "e7: d6 e6 f6 d7 f7 d8 e8 f8" ∷ codes "f7: e6 f6 g6 e7 g7 e8 f8 g8" ∷
    codes "g7: f6 g6 h6 f7 h7 f8 g8 h8" ∷ codes "h7: g6 h6 g7 g8 h8" ∷
    codes "a8: a7 b7 b8" ∷ codes "b8: a7 b7 c7 a8 c8" ∷
    codes "c8: b7 c7 d7 b8 d8" ∷ codes "d8: c7 d7 e7 c8 e8" ∷
    codes "e8: d7 e7 f7 d8 f8" ∷ codes "f8: e7 f7 g7 e8 g8" ∷
    codes "g8: f7 g7 h7 f8 h8" ∷ codes "h8: g7 h7 g8" ∷ []

-- each square from a2 to h7, and those that a white pawn on it attacks (3.7.3)
abbrev pub white_pawn_table : List (List ℕ)
white_pawn_table =
    codes "a2: b3" ∷ codes "b2: a3 c3" ∷
    codes "c2: b3 d3" ∷ codes "d2: c3 e3" ∷
    codes "e2: d3 f3" ∷ codes "f2: e3 g3" ∷
    codes "g2: f3 h3" ∷ codes "h2: g3" ∷
    codes "a3: b4" ∷ codes "b3: a4 c4" ∷
    codes "c3: b4 d4" ∷ codes "d3: c4 e4" ∷
    codes "e3: d4 f4" ∷ codes "f3: e4 g4" ∷
    codes "g3: f4 h4" ∷ codes "h3: g4" ∷
    codes "a4: b5" ∷ codes "b4: a5 c5" ∷
    codes "c4: b5 d5" ∷ codes "d4: c5 e5" ∷
    codes "e4: d5 f5" ∷ codes "f4: e5 g5" ∷
    codes "g4: f5 h5" ∷ codes "h4: g5" ∷
    codes "a5: b6" ∷ codes "b5: a6 c6" ∷
    codes "c5: b6 d6" ∷ codes "d5: c6 e6" ∷
    codes "e5: d6 f6" ∷ codes "f5: e6 g6" ∷
    codes "g5: f6 h6" ∷ codes "h5: g6" ∷
    codes "a6: b7" ∷ codes "b6: a7 c7" ∷
    codes "c6: b7 d7" ∷ codes "d6: c7 e7" ∷
    codes "e6: d7 f7" ∷ codes "f6: e7 g7" ∷
    codes "g6: f7 h7" ∷ codes "h6: g7" ∷
    codes "a7: b8" ∷ codes "b7: a8 c8" ∷
    codes "c7: b8 d8" ∷ codes "d7: c8 e8" ∷
    codes "e7: d8 f8" ∷ codes "f7: e8 g8" ∷
    codes "g7: f8 h8" ∷ codes "h7: g8" ∷ []

-- each square from a2 to h7, and those that a black pawn on it attacks (3.7.3)
abbrev pub black_pawn_table : List (List ℕ)
black_pawn_table =
    codes "a2: b1" ∷ codes "b2: a1 c1" ∷
    codes "c2: b1 d1" ∷ codes "d2: c1 e1" ∷
    codes "e2: d1 f1" ∷ codes "f2: e1 g1" ∷
    codes "g2: f1 h1" ∷ codes "h2: g1" ∷
    codes "a3: b2" ∷ codes "b3: a2 c2" ∷
    codes "c3: b2 d2" ∷ codes "d3: c2 e2" ∷
    codes "e3: d2 f2" ∷ codes "f3: e2 g2" ∷
    codes "g3: f2 h2" ∷ codes "h3: g2" ∷
    codes "a4: b3" ∷ codes "b4: a3 c3" ∷
    codes "c4: b3 d3" ∷ codes "d4: c3 e3" ∷
    codes "e4: d3 f3" ∷ codes "f4: e3 g3" ∷
    codes "g4: f3 h3" ∷ codes "h4: g3" ∷
    codes "a5: b4" ∷ codes "b5: a4 c4" ∷
    codes "c5: b4 d4" ∷ codes "d5: c4 e4" ∷
    codes "e5: d4 f4" ∷ codes "f5: e4 g4" ∷
    codes "g5: f4 h4" ∷ codes "h5: g4" ∷
    codes "a6: b5" ∷ codes "b6: a5 c5" ∷
    codes "c6: b5 d5" ∷ codes "d6: c5 e5" ∷
    codes "e6: d5 f5" ∷ codes "f6: e5 g5" ∷
    codes "g6: f5 h5" ∷ codes "h6: g5" ∷
    codes "a7: b6" ∷ codes "b7: a6 c6" ∷
    codes "c7: b6 d6" ∷ codes "d7: c6 e6" ∷
    codes "e7: d6 f6" ∷ codes "f7: e6 g6" ∷
    codes "g7: f6 h6" ∷ codes "h7: g6" ∷ []
