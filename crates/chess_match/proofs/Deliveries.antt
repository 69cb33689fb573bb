-- The blocks of an event, sent one after the other: both are sent, or a write fails, and that ends the match unless it
-- is over. A lemma for each of these cases, in which the steps of each write lead from one match to another (Leading).
use Rattle.std.proofs.Common.{◌≡◌, ◌<◌, Bool, true, false, ◌||◌, List, [], ◌++◌, length, refl, ap, sym, ◌∙◌, subst, append_assoc, append-nil, arith}
use Rattle.chess_base.specs.{declared.man.Colour.Colour, declared.man.Colour.TheVariants.White, declared.man.Colour.TheVariants.Black, declared.man.Move.Move, ByColour.by_colour, Men.other, Men.same_colour}
use Rattle.chess_base.proofs.shared.Men.{same_colour-other, same_colour-self}
use Rattle.chess_match.specs.Acts.{Block, block_of, blocks_from, is_over}
use Rattle.chess_match.specs.{shared.Parts.blocks_after, Effects.Match, Effects.Effect, Effects.effect, Events.FailsToWrite, Lines.SentLine, Reasons.is_write_fault_of, Rules.Rules, Table.Step, Table.Passing, Table.Passes, declared.reason.MatchFault.TheVariants.Write, declared.reason.Reason.Reason, declared.reason.Reason.TheVariants.Faulted, declared.state.MatchState.MatchState, ties.Represents.Represents, ties.Sane.IsWritten}
use Rattle.chess_match.specs.ties.Driving.{Delivered, Leads, by_turn, giving, steps_of}
use Rattle.chess_match.proofs.Leading.{leads_as, leads_failed, leads_farewell, leads_on, leads_sent, none, one_block, only, over_first, unsent}
use Rattle.chess_match.proofs.{Passings.passed_as, StaysSane.sane_over}

-- ---- who failed

-- to which sides a write failed, by the steps and as `deliver` returns it: no write failed
pub none_failed : (S : Colour) → false ≡ by_colour false false S
none_failed White = refl
none_failed Black = refl

-- the end lines of both sides, of which each may fail
pub last_failed : (w b : Bool) (S : Colour) → (only w White S || only b Black S) ≡ by_colour w b S
last_failed w b S = grind arith

-- the first block, for `c`, failed; then the other side's end lines may fail too
pub first_failed : (c : Colour) (f : Bool) (S : Colour) → (same_colour c S || only f (other c) S) ≡ by_turn c true f S
first_failed c f S = grind arith

-- the second block, for O, failed; then the end lines of `c` may fail too
pub second_failed : (c O : Colour) (f : Bool) → O ≡ other c → (S : Colour)
    → (same_colour O S || only f (other O) S) ≡ by_turn c f true S
second_failed c O f e S = rw e (grind arith)

-- ---- both blocks

-- a block after which no other is due
alone : (r : Rules) (m : Match) (S : Colour) (lines : List SentLine) (K : List Step) (m' : Match)
    (f : Colour → Bool) → Leads r m (block_of S lines ++ []) K m' [] f → Leads r m (block_of S lines) K m' [] f
alone r m S lines K m' f p =
    subst (λ (bs : List Block). Leads r m bs K m' [] f) (append-nil (block_of S lines)) p

-- a block was sent, or a write of it failed in a match that was over
gave : (r : Rules) (m : Match) (S : Colour) (lines : List SentLine) (due : List Block) (failed : Bool)
    → IsWritten m → (failed ≡ true → (is_over m.phase ≡ true) × (0 < length lines))
    → Leads r m (block_of S lines ++ due) (giving failed S lines) m due (only failed S)
gave r m S lines due true written h =
    leads_farewell r m S lines due true (h refl).0 (λ x. (h refl).1) (λ reason e. written reason e S)
gave r m S lines due false written h = leads_sent r m S lines due

-- what `deliver` ensures, where both blocks were sent, or a write failed in a match that was over
pub delivered_both : (r : Rules) (old new : Passing) (core : MatchState) (played : List Move) (e : Effect)
    (side first : Colour) (f g : Bool) (failed : Colour → Bool) → Represents r core played e.after
    → IsWritten e.after → blocks_after side e ≡ blocks_from first e.to
    → (is_over e.after.phase ≡ false → (S : Colour) → failed S ≡ false)
    → Passes old new (giving f first (e.to first) ++ giving g (other first) (e.to (other first)))
    → (f ≡ true → (is_over e.after.phase ≡ true) × (0 < length (e.to first)))
    → (g ≡ true → (is_over e.after.phase ≡ true) × (0 < length (e.to (other first))))
    → ((S : Colour) → (only f first S || only g (other first) S) ≡ failed S)
    → Delivered r old new core played e.after (blocks_after side e) failed
delivered_both r old new core played e side first f g failed stands written due fine passes some more who =
    let m : Match = e.after in
    let O : Colour = other first in
    let K : List Step = giving f first (e.to first) ++ giving g O (e.to O) in (
      m,
      K,
      record {
        stands = stands;
        passes = passes;
        leads = subst (λ (bs : List Block). Leads r m bs K m [] failed) (sym due)
            (leads_as r m m (blocks_from first e.to) [] K (λ S. only f first S || only g O S) failed who
            (leads_on r m m m (blocks_from first e.to) (block_of O (e.to O)) [] (giving f first (e.to first))
            (giving g O (e.to O)) (only f first) (only g O) (λ h. refl)
            (gave r m first (e.to first) (block_of O (e.to O)) f written some)
            (alone r m O (e.to O) (giving g O (e.to O)) m (only g O) (gave r m O (e.to O) [] g written more))));
        stays = λ h. refl;
        fine = fine;
        sane = λ h. h;
      },
    )

-- ---- a write failed

-- a write to S failed, which ended the match, and then the other side was sent its end lines, or a write of these
-- failed (`f`)
ended_for : (r : Rules) (m : Match) (S : Colour) (lines : List SentLine) (rest : List Block) (f : Bool)
    → is_over m.phase ≡ false → 0 < length lines
    → (f ≡ true → 0 < length ((effect r m (FailsToWrite S)).to (other S)))
    → Leads r m (block_of S lines ++ rest)
    ((giving true S lines ++ steps_of (FailsToWrite S))
    ++ giving f (other S) ((effect r m (FailsToWrite S)).to (other S)))
    (effect r m (FailsToWrite S)).after [] (λ X. same_colour S X || only f (other S) X)
ended_for r m S lines rest f on some more =
    let t : Effect = effect r m (FailsToWrite S) in
    let ls : List SentLine = t.to (other S) in
    leads_on r m t.after t.after (block_of S lines ++ rest) (block_of (other S) ls ++ []) []
    (giving true S lines ++ steps_of (FailsToWrite S)) (giving f (other S) ls) (same_colour S) (only f (other S))
    (λ h. refl)
    (subst (λ (bs : List Block). Leads r m (block_of S lines ++ rest)
    (giving true S lines ++ steps_of (FailsToWrite S)) t.after bs (same_colour S)) (one_block t.to S (unsent r m S))
    (leads_failed r m S lines rest on some))
    (leads_farewell r t.after (other S) ls [] f refl more
    (λ reason e. let same : Faulted S Write ≡ reason = cc in
    ap (λ (x : Reason). is_write_fault_of x (other S)) (sym same)
    ∙ same_colour-other S (other S) (same_colour-self (other S))))

-- nothing was sent yet
pub none_sent : (r : Rules) (m : Match) (due : List Block) → Leads r m due [] m due none
none_sent r m due H final reason g e = (H, g, refl, λ X. refl)

-- the first block was sent
pub first_sent : (r : Rules) (m : Match) (to : Colour → List SentLine) (side O : Colour) → O ≡ other side
    → Leads r m (blocks_from side to) (giving false side (to side)) m (block_of O (to O) ++ []) none
first_sent r m to side O is =
    subst (λ (bs : List Block). Leads r m (blocks_from side to) (giving false side (to side)) m bs none)
    (ap (λ (X : Colour). block_of X (to X)) (sym is) ∙ sym (append-nil (block_of O (to O))))
    (leads_sent r m side (to side) (block_of (other side) (to (other side))))

-- what `deliver` ensures, where after the steps `before` the write to the side O failed and ended the match
pub delivered_broken : (r : Rules) (old new : Passing) (core : MatchState) (played : List Move) (e : Effect)
    (side O : Colour) (f : Bool) (before : List Step) (rest : List Block) (failed : Colour → Bool)
    → is_over e.after.phase ≡ false → 0 < length (e.to O)
    → Leads r e.after (blocks_from side e.to) before e.after (block_of O (e.to O) ++ rest) none
    → (let t = effect r e.after (FailsToWrite O) in
    Represents r core played t.after × Passes old new (before ++ (giving true O (e.to O)
    ++ (steps_of (FailsToWrite O) ++ giving f (other O) (t.to (other O)))))
    × (f ≡ true → 0 < length (t.to (other O))))
    → ((S : Colour) → (same_colour O S || only f (other O) S) ≡ failed S)
    → Delivered r old new core played e.after (blocks_after side e) failed
delivered_broken r old new core played e side O f before rest failed on some sent (stands, passes, more) who =
    let m : Match = e.after in
    let t : Effect = effect r m (FailsToWrite O) in
    let end : List Step = giving f (other O) (t.to (other O)) in
    let J : List Step = (giving true O (e.to O) ++ steps_of (FailsToWrite O)) ++ end in
    let both : Colour → Bool = λ S. same_colour O S || only f (other O) S in (
      t.after,
      before ++ J,
      record {
        stands = stands;
        passes = passed_as old new _ (before ++ J) (ap (λ (l : List Step). before ++ l)
            (sym (append_assoc (giving true O (e.to O)) (steps_of (FailsToWrite O)) end))) passes;
        leads = subst (λ (bs : List Block). Leads r m bs (before ++ J) t.after [] failed)
            (sym (over_first side e false on))
            (leads_as r m t.after (blocks_from side e.to) [] (before ++ J) both failed who
            (leads_on r m m t.after (blocks_from side e.to) (block_of O (e.to O) ++ rest) [] before J none both
            (λ h. let no : false ≡ true = sym on ∙ h in absurd cc) sent
            (ended_for r m O (e.to O) rest f on some more)));
        stays = λ h. let no : false ≡ true = sym on ∙ h in absurd cc;
        fine = λ h. absurd cc;
        sane = λ h. sane_over r m (Faulted O Write) h;
      },
    )
