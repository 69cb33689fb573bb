-- `a` and `b` are two choices whether reading goes on after faults. If by the one all reports on a text are on games
-- without a fault, then by the other they are the same (same_of), since the choice matters only after a fault. By
-- induction on how many games may come.
use Rattle.std.proofs.Common.{◌≡◌, ℕ, zero, suc, ◌+◌, Bool, true, false, List, ◌∷◌, length, Option, Some, None, Result, Ok, Err, refl, ap}
use Rattle.std.specs.List.{list_all}
use Rattle.chess_game.specs.Game.{State}
use Rattle.chess_pgn.specs.declared.read.PgnEnd.{PgnEnd}
use Rattle.verify_options.specs.declared.options.Strictness.{Strictness}
use Rattle.pgn_verifier.specs.declared.game_fault.GameFault.{GameFault}
use Rattle.pgn_verifier.specs.laws.Reported.{Plain, PlainGame, PlainFault, games_from, games_of, judged_at, next_at, read_at, report_then}

-- whether a report is on a game without a fault
abbrev pub is_game : Plain → Bool
is_game (PlainGame plies outcome termination) = true
is_game (PlainFault fault wrong_at explanation) = false

module _ (strict : Strictness) (start : ℕ) (text : List ℕ) (a b : Bool) where
  -- if those are on games without a fault that are given by the one way of reading, the other gives the same
  same_from : (n at : ℕ) → list_all is_game (games_from a strict start n text at) ≡ true
      → games_from b strict start n text at ≡ games_from a strict start n text at
  unfolding games_from
  same_from zero at h = refl
  same_from (suc n) at h = by_answer (judged_at strict text at) (λ m k. same_from n m k) h
    where
      s : State
      s = (read_at strict.draws_of_2014 text at).state

      by_answer : (r : Result (Option PgnEnd) GameFault)
          → ((m : ℕ) → list_all is_game (games_from a strict start n text m) ≡ true
          → games_from b strict start n text m ≡ games_from a strict start n text m)
          → list_all is_game (report_then strict.draws_of_2014 start text (next_at a text at) r s
          (λ m. games_from a strict start n text m)) ≡ true
          → report_then strict.draws_of_2014 start text (next_at b text at) r s
          (λ m. games_from b strict start n text m)
          ≡ report_then strict.draws_of_2014 start text (next_at a text at) r s
          (λ m. games_from a strict start n text m)
      by_answer (Ok None) later k = refl
      by_answer (Ok (Some end)) later k =
          ap (λ rs. PlainGame (length s.moves) end.outcome end.termination ∷ rs) (later end.offset k)
      by_answer (Err fault) later k = absurd (cc)

  pub same_of : list_all is_game (games_of a strict start text) ≡ true
      → games_of b strict start text ≡ games_of a strict start text
  same_of h = same_from (length text + 1) 0 h
