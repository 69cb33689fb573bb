-- For crates that look into bytes: two bytes differ if only one passes a test (differs); what holds of both values of a
-- choice holds of it (pick); and a run, the longest front whose bytes pass a test, is what `prefix_len` drops and takes
-- (run_drop, run_take), and all its bytes pass (run_passes).
pub use Rattle.pgn_tokens.proofs.ByteRuns.{differs, pick, run_drop, run_passes, run_take}
