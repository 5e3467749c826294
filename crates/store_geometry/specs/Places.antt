-- Places and sizes in the store, up to its ceiling.
use Rattle.std.specs.Prelude.{Bool, true, false, cond, List, [], ◌∷◌, ◌≡◌, refl, ℕ, suc, ◌+◌, ◌≤◌, ◌<◌, leb}
use Rattle.std.proofs.Common.{ap, sym, ◌∙◌, arith, le-leb, leb-false, leb-true}
use Rattle.std.proofs.lemmas.Bool.{lt-leb}
use Rattle.language.specs.Description.{Facility}
use Rattle.language.specs.Layout.{facility_bytes, store_size_of}
use Rattle.language.specs.Ceilings.{largest_store}

-- A place or size up to the ceiling of a store; one more stands for every larger one.
unfoldable pub capped : ℕ → ℕ
unfolding largest_store
capped n = cond (leb n largest_store) n (suc largest_store)

-- Facility by facility from a place on.
unfoldable pub size_from : ℕ → List Facility → ℕ
size_from at [] = at
size_from at (f ∷ fs) = size_from (capped (at + facility_bytes f)) fs

pub capped-below : (n : ℕ) → n ≤ 16384 → capped n ≡ n
unfolding capped largest_store
capped-below n h = rw (le-leb n 16384 h) refl

pub capped-above : (n : ℕ) → 16384 < n → capped n ≡ 16385
unfolding capped largest_store
capped-above n h = rw (lt-leb n 16384 h) refl

pub capped-most : (n : ℕ) → capped n ≤ 16385
capped-most n = go (leb n 16384) refl
  where
    go : (b : Bool) → leb n 16384 ≡ b → capped n ≤ 16385
    go true q = let l = leb-true n 16384 q in rw (capped-below n l) (omega arith)
    go false q = rw (capped-above n (leb-false n 16384 q)) (omega arith)

-- A place lies within the largest store as it does where it is capped.
pub capped-within : (n : ℕ) → leb (capped n) 16384 ≡ leb n 16384
capped-within n = go (leb n 16384) refl
  where
    go : (b : Bool) → leb n 16384 ≡ b → leb (capped n) 16384 ≡ leb n 16384
    go true q = rw (capped-below n (leb-true n 16384 q))
    go false q = rw (capped-above n (leb-false n 16384 q)) (sym q)

pub capped-add : (n m : ℕ) → capped (capped n + m) ≡ capped (n + m)
capped-add n m = go (leb n 16384) refl
  where
    go : (b : Bool) → leb n 16384 ≡ b → capped (capped n + m) ≡ capped (n + m)
    go true q = ap (λ (k : ℕ). capped (k + m)) (capped-below n (leb-true n 16384 q))
    go false q =
        let l = leb-false n 16384 q in
        ap (λ (k : ℕ). capped (k + m)) (capped-above n l) ∙ (capped-above (16385 + m) (omega arith) ∙ sym (capped-above (n + m) (omega arith)))

-- So it comes to the size of the store, capped.
pub size-capped : (at : ℕ) (fs : List Facility) → capped (size_from at fs) ≡ capped (at + store_size_of fs)
unfolding size_from store_size_of
size-capped at [] = let e : at + 0 ≡ at = omega arith in rw e refl
size-capped at (f ∷ fs) =
    size-capped (capped (at + facility_bytes f)) fs
    ∙ (capped-add (at + facility_bytes f) (store_size_of fs) ∙ let e : at + facility_bytes f + store_size_of fs ≡ at + (facility_bytes f + store_size_of fs) = omega arith in ap capped e)
