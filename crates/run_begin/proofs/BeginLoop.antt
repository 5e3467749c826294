-- A cycle begins facility by facility: what is left to do gives the same as the whole. Assumes nothing.
use mathlib.Core.Bool.{false, true≢false}
use mathlib.Core.List.{List, [], ◌∷◌, ◌++◌}
use mathlib.Core.Path.{◌≡◌, refl, sym, ap, ◌∙◌}
use Prim.Native.Nat.{ℕ, zero, suc, ◌+◌, ◌*◌, ◌≤◌, ◌<◌}
use native.Mathlib.Omega.{arith}
use lib.ListN.{drop, drop_of_length-le, get_or, length, replicate, take, take-append-drop}
use Rattle.language.specs.Description.{Description, Facility, facility_at, is_computed, no_facility, word_count, word_length}
use Rattle.language.specs.Layout.{facility_bytes, place_in, store_size_of, word_bytes}
use Rattle.language.specs.Store.{inputs_of, is_input}
use Rattle.language.specs.Tree.{Kind, computed, input, memory, plain, register, sequencing}
use Rattle.image_records.proofs.ByteLaws.{placed-length}
use Rattle.image_records.specs.Placed.{placed}
use Rattle.run_begin.proofs.BeginLaws.{begun_more}
use Rattle.run_begin.proofs.BegunWords.{Rooms, inputs-size}
use Rattle.run_begin.proofs.SizeLaws.{stored_bytes}
use Rattle.run_begin.proofs.StimulusLaws.{facility-here}
use Rattle.run_begin.specs.InBytes.{begin_bytes, begins, begun_at, changed, input_bytes}

-- ---- One facility, by its kind.

module _ (f : Facility) (place : ℕ) (B S : List ℕ) (at : ℕ) where
  by_kind : (k : Kind) → f.kind ≡ k → begun_at f place B S at ≡ changed k (facility_bytes f) place B S at
  unfolding begun_at
  by_kind k e = ap (λ (j : Kind). changed j (facility_bytes f) place B S at) e

  pub begun-plain : (n : ℕ) → n ≡ word_count f * word_bytes (word_length f) → f.kind ≡ plain → placed B place (replicate n 0) ≡ begun_at f place B S at
  begun-plain n h e = ap (λ (m : ℕ). placed B place (replicate m 0)) (h ∙ sym (stored_bytes f (ap is_computed e))) ∙ sym (by_kind plain e)

  pub begun-input : (n : ℕ) → n ≡ word_count f * word_bytes (word_length f) → f.kind ≡ input → placed B place (take n (drop at S)) ≡ begun_at f place B S at
  begun-input n h e = ap (λ (m : ℕ). placed B place (take m (drop at S))) (h ∙ sym (stored_bytes f (ap is_computed e))) ∙ sym (by_kind input e)

  pub begun-long : length (begun_at f place B S at) ≡ length B
  unfolding begun_at
  begun-long = go f.kind
    where
      go : (k : Kind) → length (changed k (facility_bytes f) place B S at) ≡ length B
      go register = refl
      go sequencing = refl
      go memory = refl
      go plain = placed-length B (replicate (facility_bytes f) 0) place
      go input = placed-length B (take (facility_bytes f) (drop at S)) place
      go computed = refl

-- A facility that a cycle's begin does not change.
pub kept-no-input : (k : Kind) → begins k ≡ false → is_input k ≡ false
kept-no-input register e = refl
kept-no-input sequencing e = refl
kept-no-input memory e = refl
kept-no-input plain e = refl
kept-no-input input e = e
kept-no-input computed e = refl

pub begun_kept : (f : Facility) (place : ℕ) (B S : List ℕ) (at : ℕ) → begins f.kind ≡ false → B ≡ begun_at f place B S at
unfolding begun_at
begun_kept f place B S at = go f.kind
  where
    go : (k : Kind) → begins k ≡ false → B ≡ changed k (facility_bytes f) place B S at
    go register e = refl
    go sequencing e = refl
    go memory e = refl
    go plain e = absurd (true≢false e)
    go input e = absurd (true≢false e)
    go computed e = refl

-- ---- The loop.

place-first : (fs : List Facility) → place_in fs 0 ≡ 0
unfolding place_in
place-first [] = refl
place-first (f ∷ fs) = refl

place-next : (fs : List Facility) (n : ℕ) → n < length fs → place_in fs (suc n) ≡ place_in fs n + facility_bytes (get_or fs n no_facility)
unfolding place_in
place-next [] n h = absurd (omega arith)
place-next (f ∷ fs) zero h = let z = place-first fs in omega (arith, z)
place-next (f ∷ fs) (suc n) h = let i = place-next fs n (omega arith) in omega (arith, i)

-- B₀ is the store at first and B after n facilities, whose inputs took `at` bytes of the stimulus S.
pub record Left (d : Description) (B₀ S B : List ℕ) (n at : ℕ) : Type 0 where
  pub store : place_in d.facilities n + store_size_of (drop n d.facilities) ≤ length B
  pub stimulus : at + store_size_of (inputs_of (drop n d.facilities)) ≤ length S
  pub same : take (place_in d.facilities n) B ++ begin_bytes (drop n d.facilities) (drop (place_in d.facilities n) B) (drop at S) ≡ begin_bytes d.facilities B₀ S

pub left-all : (d : Description) (B S : List ℕ) → Rooms d.facilities B S → Left d B S B 0 0
left-all d B S r =
    let z = place-first d.facilities in record {
      store = omega (arith, z, r.store);
      stimulus = omega (arith, r.stimulus);
      same = ap (λ (p : ℕ). take p B ++ begin_bytes d.facilities (drop p B) S) z;
    }

pub left-more : (d : Description) (B₀ S B : List ℕ) (n at : ℕ) (f : Facility) (p : ℕ) → n < length d.facilities → facility_at d n ≡ f
    → (is_computed f.kind ≡ false → p ≡ place_in d.facilities n) → Left d B₀ S B n at → Left d B₀ S (begun_at f p B S at) (suc n) (at + input_bytes f)
unfolding facility_at store_size_of
left-more d B₀ S B n at f p h e q l =
    let fs = d.facilities in
    let P : ℕ = place_in fs n in
    let rest = drop (suc n) fs in
    let c : drop n fs ≡ f ∷ rest = facility-here d n f h e in
    let N : place_in fs (suc n) ≡ P + facility_bytes f = place-next fs n h ∙ ap (λ (g : Facility). P + facility_bytes g) e in
    let a : store_size_of (drop n fs) ≡ facility_bytes f + store_size_of rest = ap store_size_of c in
    let b : store_size_of (inputs_of (drop n fs)) ≡ input_bytes f + store_size_of (inputs_of rest) = ap (λ (gs : List Facility). store_size_of (inputs_of gs)) c ∙ inputs-size f rest in
    let u : P + facility_bytes f ≤ length B = omega (arith, a, l.store) in
    let v : at + input_bytes f ≤ length S = omega (arith, b, l.stimulus) in
    let w = begun-long f p B S at in record {
      store = omega (arith, N, a, l.store, w);
      stimulus = omega (arith, b, l.stimulus);
      same =
          ap (λ (m : ℕ). take m (begun_at f p B S at) ++ begin_bytes rest (drop m (begun_at f p B S at)) (drop (at + input_bytes f) S)) N
          ∙ (begun_more f rest p P B S at q u v
          ∙ (ap (λ (gs : List Facility). take P B ++ begin_bytes gs (drop P B) (drop at S)) (sym c) ∙ l.same));
    }

pub left-none : (d : Description) (B₀ S B : List ℕ) (n at : ℕ) → length d.facilities ≤ n → Left d B₀ S B n at → B ≡ begin_bytes d.facilities B₀ S
unfolding begin_bytes
left-none d B₀ S B n at h l =
    let P : ℕ = place_in d.facilities n in
    sym (take-append-drop P B)
    ∙ (ap (λ (gs : List Facility). take P B ++ begin_bytes gs (drop P B) (drop at S)) (sym (drop_of_length-le d.facilities h)) ∙ l.same)
