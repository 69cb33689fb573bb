-- Steps at a host over memory. A step passes there if it may come next, and the host notes the commands that it started
-- (step_passes). So do a start that failed (none_starts) and one that didn't (both_start).
use Rattle.std.proofs.Common.{◌≡◌, ◌≢◌, ◌∙◌, ◌+◌, ◌≤◌, ℕ, zero, suc, Bool, List, [], ◌∷◌, ◌++◌, Option, Some, refl, sym, ap, arith, append-nil, append_assoc, length, option_map, slice_get, get_or, set, IfSome, cond, count_by}
use Rattle.std.proofs.{lemmas.List.Sums.sum_by-cons, lemmas.Option.slice_get_past}
use Rattle.byte_devices.specs.Transfers.{Devices}
use Rattle.chess_base.specs.{declared.man.Colour.Colour, declared.man.Colour.TheVariants.White, declared.man.Colour.TheVariants.Black}
use Rattle.match_runner.specs.GamesTable.{HostStep, StartFails, Starts, StepsPass}
use Rattle.match_runner.specs.MemoryHost.{IsFaultOfStart, IsNext, MayCome, fresh_pipes, next_text, started_by, started_for, started_in}
use Rattle.match_runner.specs.{declared.fault.GamesFault.GamesFault, declared.memory_host.MemoryGame.MemoryGame, declared.memory_host.MemoryHost.MemoryHost}

-- ---- what may come

-- a step passed from `host` to `host'` if it may come next (IsNext), the engines and moments stay, and the commands
-- that it started are noted
pub step_passes : (host host' : MemoryHost) (step : HostStep)
    → host'.engines.now ≡ host.engines.now → host'.moments.now ≡ host.moments.now
    → started_for host'.games.items ≡ started_for host.games.items ++ started_by step
    → IsNext host.engines.now host.moments.now (started_for host.games.items) step
    → StepsPass (MayCome host) (MayCome host') (step ∷ [])
step_passes host host' step e m g next = record { extends = λ after come. record { each = each after come } }
  where
    each : (after : List HostStep) → MayCome host' after
        → (before : List HostStep) (x : HostStep) (rest : List HostStep) → before ++ x ∷ rest ≡ step ∷ after
        → IsNext host.engines.now host.moments.now (started_for host.games.items ++ started_in before) x
    each after come [] x rest cut =
        let is : x ≡ step = cc in
        rw (is, append-nil (started_for host.games.items)) next
    each after come (y ∷ before) x rest cut =
        let is : y ≡ step = cc in
        let tail : before ++ x ∷ rest ≡ after = cc in
        let earlier : started_for host'.games.items ++ started_in before
        ≡ started_for host.games.items ++ started_in (y ∷ before) =
        ap (λ K. K ++ started_in before) g
        ∙ append_assoc (started_for host.games.items) (started_by step) (started_in before)
        ∙ ap (λ s. started_for host.games.items ++ started_in (s ∷ before)) (sym is) in
        rw (← e, ← m, ← earlier) (come.each before x rest tail)

-- ---- starts

-- how many of all starts pass a test is how many of White's and of Black's do
pub started_as : (p : List ℕ → Bool) (games : List MemoryGame)
    → count_by p (started_for games)
    ≡ count_by (λ g. p g.commands.white.now) games + count_by (λ g. p g.commands.black.now) games
started_as p [] = refl
started_as p (g ∷ games) =
    let weight : List ℕ → ℕ = λ c. cond (p c) 1 0 in
    let white : MemoryGame → ℕ = λ h. weight h.commands.white.now in
    let black : MemoryGame → ℕ = λ h. weight h.commands.black.now in
    let rest = started_as p games in
    let one = sum_by-cons weight g.commands.white.now (g.commands.black.now ∷ started_for games) in
    let two = sum_by-cons weight g.commands.black.now (started_for games) in
    rw (one, two, sum_by-cons white g games, sum_by-cons black g games, rest) (omega arith)

-- ---- what engines were sent

-- the texts of the game at index i are noted there
pub sent_there : (games : List MemoryGame) (i : ℕ) (g : MemoryGame)
    → IfSome (slice_get (set games i g) i) (λ h. h.sent ≡ g.sent)
sent_there [] i g = tt
sent_there (h ∷ games) zero g = refl
sent_there (h ∷ games) (suc i) g = sent_there games i g

-- no other game changes
pub others_stay : (games : List MemoryGame) (i : ℕ) (g : MemoryGame) (k : ℕ) → k ≢ i
    → slice_get (set games i g) k ≡ slice_get games k
others_stay [] i g k apart = refl
others_stay (h ∷ games) zero g zero apart = absurd (apart refl)
others_stay (h ∷ games) zero g (suc k) apart = refl
others_stay (h ∷ games) (suc i) g zero apart = refl
others_stay (h ∷ games) (suc i) g (suc k) apart = others_stay games i g k (λ e. apart (ap suc e))

-- if the game at index i keeps its commands, so do all starts
pub started_stay : (games : List MemoryGame) (i : ℕ) (g d : MemoryGame)
    → g.commands ≡ (get_or games i d).commands → started_for (set games i g) ≡ started_for games
started_stay [] i g d e = refl
started_stay (h ∷ games) zero g d e = rw e refl
started_stay (h ∷ games) (suc i) g d e =
    ap (λ K. h.commands.white.now ∷ h.commands.black.now ∷ K) (started_stay games i g d e)

-- past the games there is none
pub none_there : (games : List MemoryGame) (i : ℕ) (P : MemoryGame → Type 0) → length games ≤ i
    → IfSome (slice_get games i) P
none_there games i P past = rw (slice_get_past games i past) tt

-- ---- a start

-- none was started
pub none_starts : (host host' : MemoryHost) (white black : List ℕ) (limit : Option ℕ) (fault : GamesFault)
    → host'.engines ≡ host.engines → host'.moments ≡ host.moments → host'.games.items ≡ host.games.items
    → IsFaultOfStart white black (next_text host.engines.now (started_for host.games.items) white)
    (next_text host.engines.now (started_for host.games.items ++ white ∷ []) black) fault
    → StepsPass (MayCome host) (MayCome host') (StartFails white black limit fault ∷ [])
none_starts host host' white black limit fault e m g is = step_passes host host' (StartFails white black limit fault)
    (ap (λ r. r.now) e) (ap (λ r. r.now) m) (ap started_for g ∙ sym (append-nil (started_for host.games.items))) is

-- both were started
pub both_start : (host host' : MemoryHost) (white black white' black' : List ℕ) (limit : Option ℕ)
    (pipes : Colour → Devices) (white_text black_text : List ℕ) → host'.engines ≡ host.engines → host'.moments ≡ host.moments
    → started_for host'.games.items ≡ started_for host.games.items ++ white' ∷ black' ∷ []
    → white' ≡ white → black' ≡ black
    → next_text host.engines.now (started_for host.games.items) white ≡ Some white_text
    → next_text host.engines.now (started_for host.games.items ++ white ∷ []) black ≡ Some black_text
    → pipes White ≡ fresh_pipes white_text → pipes Black ≡ fresh_pipes black_text
    → StepsPass (MayCome host) (MayCome host') (Starts white black limit pipes ∷ [])
both_start host host' white black white' black' limit pipes white_text black_text e m g w b wt bt pw pb =
    step_passes host host' (Starts white black limit pipes) (ap (λ r. r.now) e) (ap (λ r. r.now) m)
    (g ∙ ap (λ K. started_for host.games.items ++ K) (cc))
    (ap (option_map fresh_pipes) wt ∙ ap Some (sym pw), ap (option_map fresh_pipes) bt ∙ ap Some (sym pb))
