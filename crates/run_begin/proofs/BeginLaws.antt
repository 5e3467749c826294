-- The bytes of one facility as a cycle begins, and where they stand in the store. Assumes nothing.
use mathlib.Core.Bool.{true, false}
use mathlib.Core.List.{List, ◌∷◌, ◌++◌, append_assoc}
use mathlib.Core.Path.{◌≡◌, refl, sym, ap, ◌∙◌}
use Prim.Native.Nat.{ℕ, zero, suc, ◌+◌, ◌≤◌}
use native.Mathlib.Omega.{arith}
use lib.ListN.{drop, get_or, length, length-append, length-drop, length-replicate, replicate, take, take-append-drop}
use lib.Seq.{drop_at, drop-drop, length-take-le, take-add, take_at}
use Rattle.language.specs.Description.{Facility, is_computed}
use Rattle.language.specs.Layout.{facility_bytes}
use Rattle.language.specs.Store.{is_input}
use Rattle.language.specs.Tree.{Kind, computed, input, memory, plain, register, sequencing}
use Rattle.image_records.specs.Placed.{placed}
use Rattle.store_layout.proofs.ByteLists.{bytes_take}
use Rattle.store_layout.proofs.Zeros.{Zeros}
use Rattle.store_layout.specs.Layout.{Bytes}
use Rattle.run_begin.proofs.SizeLaws.{input-whole, put-there}
use Rattle.run_begin.specs.InBytes.{begin_bytes, begun_at, bytes_begun, changed, input_bytes}

-- ---- The bytes of one facility.

-- There are n of them, and n more in the stimulus where it is an input.
pub record Room (k : Kind) (n : ℕ) (B S : List ℕ) : Type 0 where
  pub store : n ≤ length B
  pub stimulus : is_input k ≡ true → n ≤ length S

pub begun-length : (k : Kind) (n : ℕ) (B S : List ℕ) → Room k n B S → length (bytes_begun k n B S) ≡ n
begun-length register n B S r = length-take-le n B r.store
begun-length sequencing n B S r = length-take-le n B r.store
begun-length memory n B S r = length-take-le n B r.store
begun-length plain n B S r = length-replicate n 0
begun-length input n B S r = length-take-le n S (r.stimulus refl)
begun-length computed n B S r = length-take-le n B r.store

pub zeros : (n : ℕ) → Zeros (replicate n 0)
zeros zero i = refl
zeros (suc n) zero = refl
zeros (suc n) (suc i) = zeros n i

pub bytes-zeros : (n : ℕ) → Bytes (replicate n 0)
bytes-zeros n i = let z : ◌≡◌ {A = ℕ} (get_or (replicate n 0) i 0) 0 = zeros n i in omega (arith, z)

pub begun-bytes : (k : Kind) (n : ℕ) (B S : List ℕ) → Bytes B → Bytes S → Bytes (bytes_begun k n B S)
begun-bytes register n B S b s = bytes_take B n b
begun-bytes sequencing n B S b s = bytes_take B n b
begun-bytes memory n B S b s = bytes_take B n b
begun-bytes plain n B S b s = bytes-zeros n
begun-bytes input n B S b s = bytes_take S n s
begun-bytes computed n B S b s = bytes_take B n b

-- ---- In the middle of the store.

module _ (n place : ℕ) (B S : List ℕ) (at : ℕ) (fits : place + n ≤ length B) where
  as_it_was : B ≡ take place B ++ (take n (drop place B) ++ drop (place + n) B)
  as_it_was =
      sym (take-append-drop (place + n) B)
      ∙ (ap (λ (X : List ℕ). X ++ drop (place + n) B) (take-add place n B) ∙ append_assoc (take place B) (take n (drop place B)) (drop (place + n) B))

  changed-there : (k : Kind) (p : ℕ) → (is_computed k ≡ false → p ≡ place) → (is_input k ≡ true → n ≤ length (drop at S))
      → changed k n p B S at ≡ take place B ++ (bytes_begun k n (drop place B) (drop at S) ++ drop (place + n) B)
  changed-there register p e s = as_it_was
  changed-there sequencing p e s = as_it_was
  changed-there memory p e s = as_it_was
  changed-there plain p e s = ap (λ (q : ℕ). placed B q (replicate n 0)) (e refl) ∙ put-there B place n (replicate n 0) fits (length-replicate n 0)
  changed-there input p e s = ap (λ (q : ℕ). placed B q (take n (drop at S))) (e refl) ∙ put-there B place n (take n (drop at S)) fits (length-take-le n (drop at S) (s refl))
  changed-there computed p e s = as_it_was

-- One facility of the loop: what is left to do gives the same.
module _ (f : Facility) (fs : List Facility) (p place : ℕ) (B S : List ℕ) (at : ℕ)
    (e : is_computed f.kind ≡ false → p ≡ place) (fits : place + facility_bytes f ≤ length B) (has : at + input_bytes f ≤ length S) where
  abbrev new : List ℕ
  new = begun_at f p B S at

  abbrev n : ℕ
  n = facility_bytes f

  abbrev X : List ℕ
  X = bytes_begun f.kind n (drop place B) (drop at S)

  left : is_input f.kind ≡ true → n ≤ length (drop at S)
  left i = omega (arith, has, input-whole f i, length-drop at S)

  is-new : new ≡ take place B ++ (X ++ drop (place + n) B)
  unfolding begun_at
  is-new = changed-there n place B S at fits f.kind p e left

  front : length (take place B ++ X) ≡ place + n
  front =
      let x : length X ≡ n = begun-length f.kind n (drop place B) (drop at S) (record { store = omega (arith, fits, length-drop place B); stimulus = left }) in
      let y : length (take place B) ≡ place = length-take-le place B (omega arith) in
      length-append (take place B) X ∙ omega (arith, x, y)

  new_two : new ≡ (take place B ++ X) ++ drop (place + n) B
  new_two = is-new ∙ sym (append_assoc (take place B) X (drop (place + n) B))

  pub begun_more : take (place + n) new ++ begin_bytes fs (drop (place + n) new) (drop (at + input_bytes f) S) ≡ take place B ++ begin_bytes (f ∷ fs) (drop place B) (drop at S)
  unfolding begin_bytes
  begun_more =
      let t : take (place + n) new ≡ take place B ++ X = ap (take (place + n)) new_two ∙ take_at (take place B ++ X) (drop (place + n) B) (place + n) front in
      let d : drop (place + n) new ≡ drop n (drop place B) = ap (drop (place + n)) new_two ∙ (drop_at (take place B ++ X) (drop (place + n) B) (place + n) front ∙ sym (drop-drop n place B)) in
      let s : drop (at + input_bytes f) S ≡ drop (input_bytes f) (drop at S) = sym (drop-drop (input_bytes f) at S) in
      rw (t, d, s) (append_assoc (take place B) X (begin_bytes fs (drop n (drop place B)) (drop (input_bytes f) (drop at S))))
