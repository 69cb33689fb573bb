-- For laws of Chess960's rights in crates above, passed on: an available right has king and rook on the first rank, the
-- rook on its side (`Beside`, beside). The letter of the rook's file is none of K, Q, k and q (no_side_letter), but
-- that of a file of its colour (own_file); it gives back the square (file_back; file_in: a file is below 8), names the
-- right (names_own), and gives its rook (rook_own).
pub use Rattle.chess_fen.proofs.RightsBack.{Beside, beside, no_side_letter, own_file, file_back, file_in, names_own, rook_own}
