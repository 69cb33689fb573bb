-- Which features an engine has on after one `feature` item more, by those that it had on before and that item, as the
-- last item of a name decides: for a single feature (takes-snoc), for Chess960 (fischerandom-snoc), and for all of them
-- (features-snoc).
use Rattle.std.proofs.Common.{◌≡◌, ℕ, true, List, [], ◌∷◌, ◌++◌, refl, codes}
use Rattle.cecp_engine.specs.Items.{Item, takes, is_one, has_word, plays_fischerandom}
use Rattle.cecp_engine.specs.{ties.Taken.said_again, ties.Taken.fischerandom_again, Seen.features_of, declared.features.Features.Features}
use Rattle.cecp_engine.proofs.shared.Items.{last_said-snoc}

pub takes-snoc : (name : List ℕ) (items : List Item) (i : Item)
    → takes name (items ++ i ∷ []) ≡ said_again name i (takes name items)
unfolding takes
takes-snoc name items i = last_said-snoc is_one _ name items i

pub fischerandom-snoc : (items : List Item) (i : Item) → plays_fischerandom (items ++ i ∷ []) ≡ fischerandom_again i
    (plays_fischerandom items)
unfolding plays_fischerandom
fischerandom-snoc items i =
    last_said-snoc (λ v. has_word (codes "fischerandom") v.text) true (codes "variants") items i

pub features-snoc : (f : Features) (items : List Item) (i : Item) → f ≡ features_of items
    → record {
      ping = said_again (codes "ping") i f.ping;
      setboard = said_again (codes "setboard") i f.setboard;
      san = said_again (codes "san") i f.san;
      usermove = said_again (codes "usermove") i f.usermove;
      time = said_again (codes "time") i f.time;
      draw = said_again (codes "draw") i f.draw;
      fischerandom = fischerandom_again i f.fischerandom;
    } ≡ features_of (items ++ i ∷ [])
unfolding features_of
features-snoc f items i e =
    rw (
      e,
      takes-snoc (codes "ping") items i,
      takes-snoc (codes "setboard") items i,
      takes-snoc (codes "san") items i,
      takes-snoc (codes "usermove") items i,
      takes-snoc (codes "time") items i,
      takes-snoc (codes "draw") items i,
      fischerandom-snoc items i,
    ) refl
