-- The store in bytes and the store in words are alike: what one loads, puts and delays, the other does too, and they land alike. Assumes nothing.
use mathlib.Core.Path.{◌≡◌, refl, sym, ap, ◌∙◌}
use mathlib.Core.List.{List, [], ◌∷◌, ◌++◌}
use Prim.Native.Nat.{ℕ, ◌≤◌}
use native.Mathlib.Omega.{arith}
use lib.ListN.{length}
use Rattle.language.specs.Description.{Description}
use Rattle.language.specs.Layout.{store_size_of}
use Rattle.language.specs.Meaning.{Place, Write}
use Rattle.language.specs.Store.{Held, StoreWords, conflicts, from_bytes, land_all, load_part, numbers, put_part}
use Rattle.store_layout.specs.InBytes.{InBytes, There, Waiting, bytes, delayed, delayed_all, waiting}
use Rattle.store_layout.specs.Layout.{Bytes}
use Rattle.store_layout.specs.Slices.{landed}
use Rattle.store_words.proofs.Landing.{counts_same, lands-same}
use Rattle.store_layout.proofs.Naming.{AllThere, GroupsThere}
use Rattle.store_layout.proofs.Zeros.{Zeros}
use Rattle.store_words.proofs.SameStore.{bytes-put, length-put, load_same, save-same}

module _ (d : Description) where
  delayed-more : (a : Waiting) (gs : List (List Write)) (g : List Write) → delayed_all d a (gs ++ g ∷ []) ≡ delayed d (delayed_all d a gs) g
  unfolding delayed_all
  delayed-more a [] g = refl
  delayed-more a (h ∷ gs) g = delayed-more (delayed d a h) gs g

  there-more : (gs : List (List Write)) (g : List Write) → GroupsThere d gs → AllThere d g → GroupsThere d (gs ++ g ∷ [])
  there-more [] g h t = (t, tt)
  there-more (x ∷ gs) g h t = (h.0, there-more gs g h.1 t)

  module _ (P₀ M₀ : List ℕ) (room : store_size_of d.facilities ≤ length P₀) where
    -- The bytes y stand for the words x, where P₀ and M₀ were the pending bytes and the mask when nothing was delayed.
    pub record Means (x : Held) (y : InBytes) : Type 0 where
      pub same : x.words ≡ from_bytes d.facilities y.bytes
      pub are-bytes : Bytes y.bytes
      pub size : length y.bytes ≡ length P₀
      pub delays : y.waiting ≡ delayed_all d (waiting P₀ M₀) x.waits
      pub there : GroupsThere d x.waits

    module _ (x : Held) (y : InBytes) (m : Means x y) where
      enough : store_size_of d.facilities ≤ length y.bytes
      enough = omega (arith, m.size)

      pub loads-alike : (p : Place) → There d p → (numbers d).load x p ≡ (bytes d).load y p
      loads-alike p h = ap (λ (s : StoreWords). load_part d s p) m.same ∙ sym (load_same d y.bytes m.are-bytes enough p h)

      pub puts-alike : (w : Write) → There d w.at → Means ((numbers d).put x w) ((bytes d).put y w)
      puts-alike w h = record {
        same = ap (λ (s : StoreWords). put_part d s w) m.same ∙ sym (save-same d y.bytes m.are-bytes enough w.at h w.number);
        are-bytes = bytes-put d y.bytes m.are-bytes enough w.at h w.number;
        size = length-put d y.bytes m.are-bytes enough w.at h w.number ∙ m.size;
        delays = m.delays;
        there = m.there;
      }

      pub delays-alike : (g : List Write) → AllThere d g → Means ((numbers d).delay x g) ((bytes d).delay y g)
      delays-alike g h = record {
        same = m.same;
        are-bytes = m.are-bytes;
        size = m.size;
        delays = ap (λ (a : Waiting). delayed d a g) m.delays ∙ sym (delayed-more (waiting P₀ M₀) x.waits g);
        there = there-more x.waits g m.there h;
      }

      module _ (bytes-P : Bytes P₀) (bytes-M : Bytes M₀) (size-M : length M₀ ≡ length P₀) (clear : Zeros M₀) where
        pub lands-alike : land_all d x.words x.waits ≡ from_bytes d.facilities (landed y.bytes y.waiting.pending y.waiting.mask)
        lands-alike =
            ap (λ (s : StoreWords). land_all d s x.waits) m.same
            ∙ sym (lands-same d y.bytes enough P₀ M₀ m.are-bytes bytes-P bytes-M (sym m.size) (size-M ∙ sym m.size) clear x.waits m.there)
            ∙ ap (λ (a : Waiting). from_bytes d.facilities (landed y.bytes a.pending a.mask)) (sym m.delays)

        pub counts-alike : conflicts [] x.waits ≡ y.waiting.conflicts
        counts-alike =
            sym (counts_same d y.bytes enough P₀ M₀ m.are-bytes bytes-P bytes-M (sym m.size) (size-M ∙ sym m.size) clear x.waits m.there)
            ∙ ap (λ (a : Waiting). a.conflicts) (sym m.delays)
