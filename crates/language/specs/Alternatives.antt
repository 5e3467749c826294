-- The machine's alternatives by their kinds: words that lead on, open, close, are kept or count.
use Rattle.std.specs.Prelude.{Bool, true, false, List, [], ◌∷◌, ◌++◌, map, ℕ}
use Rattle.language.specs.Machine.{Alternative, Bearing, Rule, Sym, Tally, closes, counted, level, may, must, opens, word}
use Rattle.language.specs.BuildSteps.{Step}

module _ {B : Type 0} where
  abbrev pub no_step : Step B
  no_step p b = b

  abbrev pub way : ℕ → Step B → Bool → List Tally → Bearing → Bool → List (Sym B) → Alternative B
  way k f kept ts b i to = record { on = k; first = f; kept = kept; tallies = ts; bearing = b; instead = i; to = to }

  -- A word that only leads on.
  abbrev pub lead : ℕ → List (Sym B) → Alternative B
  lead k to = way k no_step false [] level false to

  -- An opening or closing word.
  abbrev pub enter : ℕ → List (Sym B) → Alternative B
  enter k to = way k no_step false [] opens false to

  abbrev pub shut : ℕ → List (Sym B) → Alternative B
  shut k to = way k no_step false [] closes false to

  -- A word that is kept for its node; one that counts; one that counts and opens.
  abbrev pub kept : ℕ → List (Sym B) → Alternative B
  kept k to = way k no_step true [] level false to

  abbrev pub counts : ℕ → List (Sym B) → Alternative B
  counts k to = way k no_step true (counted ∷ []) level false to

  abbrev pub counts_opening : ℕ → List (Sym B) → Alternative B
  counts_opening k to = way k no_step true (counted ∷ []) opens false to

  -- What is then still to come, after an alternative's own.
  abbrev pub followed : List (Sym B) → Alternative B → Alternative B
  followed more a = way a.on a.first a.kept a.tallies a.bearing a.instead (a.to ++ more)

  -- A step before the word, and what it counts as besides.
  abbrev pub after_step : Step B → List Tally → Alternative B → Alternative B
  after_step f ts a = way a.on (λ p b. a.first p (f p b)) a.kept (ts ++ a.tallies) a.bearing a.instead a.to

  abbrev pub each : List ℕ → (ℕ → Alternative B) → List (Alternative B)
  each ks f = map f ks

  abbrev pub closing : ℕ → Sym B
  closing k = word k closes

  abbrev pub plain_word : ℕ → Sym B
  plain_word k = word k level

  -- A notion that must come, and one that may be left out.
  abbrev pub always : List (Alternative B) → Rule B
  always ws = record { ways = ws; without = must }

  abbrev pub optional : List (Alternative B) → Rule B
  optional ws = record { ways = ws; without = may no_step }
