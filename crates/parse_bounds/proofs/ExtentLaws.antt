-- Dimensions, as the code reads them.
use mathlib.Core.Bool.{false}
use mathlib.Core.List.{List, [], ◌∷◌, ◌++◌}
use mathlib.Core.Path.{◌≡◌, refl, ap, ◌∙◌}
use Prim.Native.Nat.{ℕ, suc, ◌-◌}
use native.Mathlib.Omega.{arith}
use Rattle.language.specs.declared.refusals.Refusal.TheVariants.{NoContinuation}
use Rattle.parse_step.proofs.Saying.{makes-it}
use Rattle.parse_step.proofs.TakenWords.{took-done}
use Rattle.parse_step.specs.declared.Bearing.TheVariants.{Closes, Opens}
use Rattle.parse_step.specs.declared.State.{State}
use Rattle.parse_step.specs.Course.{Seen, Stack, counts_of, kind_no, runs}
use Rattle.parse_step.specs.Taken.{Expected, Passed, Refuses, Took, after_word}
use Rattle.language.specs.Alternatives.{closing}
use Rattle.language.specs.Building.{Built}
use Rattle.language.specs.Declaring.{make_row, make_table}
use Rattle.language.specs.Kinds.{a_constant, close_bracket, comma, open_bracket}
use Rattle.language.specs.Machine.{ask, keep, make, range_rest}
use Rattle.language.specs.Tree as T
use Rattle.parse_tables.specs.declared.extents.Ends.{Ends}
use Rattle.parse_tables.specs.declared.extents.Extent.{Extent}
use Rattle.text_words.specs.declared.Word.{Word}
use Rattle.parse_bounds.proofs.ExtentWords.{extent-comma, extent-none, extent-opened, extent-row, extent-stuck}
use Rattle.parse_step.proofs.States.{state-of}
use Rattle.parse_bounds.proofs.Telling.{not-expected, not-taken, refuses, tells-ok, through, untold}
use Rattle.parse_bounds.specs.declared.extents.Measured.{Measured}
use Rattle.parse_bounds.specs.declared.ranges.Ranged.{Ranged}
use Rattle.parse_bounds.specs.Extents.{Absent, ExtentRead, Follows, Measures, Sized, Whose, ask_of, closed_state, rest_of, to_come, with_extent}
use Rattle.parse_bounds.specs.Ranges.{Bounded, RangeRead, Ranges, with_range}
use Rattle.parse_bounds.specs.Telling.{same}
use Rattle.parse_step.specs.declared.Reached.{Reached}
use Rattle.parse_step.specs.declared.Unread.{Unread}
use Rattle.std.specs.Prelude.{Err, Ok, Result}

-- ---- Extents.

pub none-sized : {v w : Ends} → Absent v → Absent w → Sized T.single (record { dimensions = 0; words = v; bits = w })
none-sized a b = record {
  dimensions = refl;
  words = rw (a.first, a.last);
  bits = rw (b.first, b.last);
  words_from = a.left;
  words_to = a.right;
  bits_from = b.left;
  bits_to = b.right;
}

pub row_sized : {v w : Ends} {x : T.Ends} → Absent v → Bounded x w → Sized (T.row x) (record { dimensions = 1; words = v; bits = w })
row_sized a b = record { dimensions = refl; words = rw (a.first, a.last); bits = b.bounds; words_from = a.left; words_to = a.right; bits_from = b.left; bits_to = b.right }

pub table-sized : {v w : Ends} {x y : T.Ends} → Bounded x v → Bounded y w → Sized (T.table x y) (record { dimensions = 2; words = v; bits = w })
table-sized a b = record { dimensions = refl; words = a.bounds; bits = b.bounds; words_from = a.left; words_to = a.right; bits_from = b.left; bits_to = b.right }

-- ---- Behind a first range.

module _ {text : List ℕ} {w : Word} {s : State} where
  module _ (k : kind_no w.kind ≡ close_bracket) where
    pub row-not : {f : Ends} {e : Unread} → Took text w (after_word false Closes s) s (Err e) → Follows text w s f (Err e)
    row-not t o z x b = not-taken t (λ K. make make_row ∷ (to_come o (T.row x) ++ K)) (with_range x) (λ K c. extent-row text w K (with_range x c) s o x k)

    pub row-closed : {f : Ends} {e : Extent} {a : Reached} → Took text w (after_word false Closes s) s (Ok a) → ((x : T.Ends) → Bounded x f → Sized (T.row x) e) → Follows text w s f (Ok (record { reached = a; extent = e }))
    row-closed {e = e} {a = a} t g o z x b = tells-ok (read (t.done refl))
      where
        read : Passed text w (after_word false Closes s) s a → ExtentRead text o (ask (rest_of o) ∷ []) (with_range x) w s (closed_state s) (record { reached = a; extent = e })
        read p = record {
          tree = T.row x;
          course = λ K c. extent-row text w K (with_range x c) s o x k ∙ took-done p z (make make_row ∷ (to_come o (T.row x) ++ K)) (with_range x c)
              ∙ makes-it text make_row (to_come o (T.row x) ++ K) a.next (with_range x c) (with_extent (T.row x) c) a.state (λ q. refl);
          state = state-of p.counts p.kept;
          extent = g x b;
          seen = p.seen;
        }

  pub neither : {f : Ends} {r : Result Measured Unread} → (kind_no w.kind ≡ close_bracket → ⊥) → (kind_no w.kind ≡ comma → ⊥) → Refuses w NoContinuation r → Follows text w s f r
  neither n m r o z x b = refuses NoContinuation r (λ K c. extent-stuck text w K (with_range x c) s o z n m)

  module _ (k : kind_no w.kind ≡ comma) where
    pub comma-not : {f : Ends} {e : Unread} → Took text w (counts_of s) s (Err e) → Follows text w s f (Err e)
    comma-not t o z x b = not-taken t (λ K. keep a_constant ∷ ask range_rest ∷ closing close_bracket ∷ make make_table ∷ (to_come o (T.table x x) ++ K)) (with_range x) (λ K c. extent-comma text w K (with_range x c) s o x x k)

    module _ {a : Reached} (t : Took text w (counts_of s) s (Ok a)) where
      p : Passed text w (counts_of s) s a
      p = t.done refl

      to-range : (o : Whose) → Seen text w → (x y : T.Ends) (K : Stack) (c : Built) → runs text (ask (rest_of o) ∷ K) w (with_range x c) s
          ≡ runs text (keep a_constant ∷ ask range_rest ∷ closing close_bracket ∷ make make_table ∷ (to_come o (T.table x y) ++ K)) a.next (with_range x c) a.state
      to-range o z x y K c = extent-comma text w K (with_range x c) s o x y k ∙ took-done p z (keep a_constant ∷ ask range_rest ∷ closing close_bracket ∷ make make_table ∷ (to_come o (T.table x y) ++ K)) (with_range x c)

      pub second-not : {f : Ends} {e : Unread} → Ranges text a.next a.state (Err e) → Follows text w s f (Err e)
      second-not q o z x b = untold (q p.seen) (λ K. closing close_bracket ∷ make make_table ∷ (to_come o (T.table x x) ++ K)) (with_range x) (to-range o z x x)

      module _ {r : Ranged} (q : Ranges text a.next a.state (Ok r)) where
        y : RangeRead text a.next a.state r
        y = (q p.seen).done refl

        to-close : (o : Whose) → Seen text w → (x : T.Ends) (K : Stack) (c : Built) → runs text (ask (rest_of o) ∷ K) w (with_range x c) s
            ≡ runs text (closing close_bracket ∷ make make_table ∷ (to_come o (T.table x y.tree) ++ K)) r.reached.next (with_range y.tree (with_range x c)) r.reached.state
        to-close o z x K c = to-range o z x y.tree K c ∙ y.course (closing close_bracket ∷ make make_table ∷ (to_come o (T.table x y.tree) ++ K)) (with_range x c)

        pub table-open : {f : Ends} {e : Unread} → Expected text close_bracket Closes r.reached.next r.reached.state (Err e) → Follows text w s f (Err e)
        table-open m o z x b = not-expected m y.seen (omega arith) (λ K. make make_table ∷ (to_come o (T.table x y.tree) ++ K)) (λ c. with_range y.tree (with_range x c)) (to-close o z x)

        pub table-closed : {l : Reached} {f : Ends} {e : Extent} → Expected text close_bracket Closes r.reached.next r.reached.state (Ok l)
            → ((x y : T.Ends) → Bounded x f → Bounded y r.ends → Sized (T.table x y) e) → Follows text w s f (Ok (record { reached = l; extent = e }))
        table-closed {l} {f} {e} m g o z x b = tells-ok (read (m.done refl y.seen (omega arith)))
          where
            read : Passed text r.reached.next (after_word false Closes r.reached.state) r.reached.state l
                × ((K : Stack) (c : Built) → runs text (closing close_bracket ∷ K) r.reached.next c r.reached.state ≡ runs text K l.next c l.state)
                → ExtentRead text o (ask (rest_of o) ∷ []) (with_range x) w s (closed_state s) (record { reached = l; extent = e })
            read (v, u) = record {
              tree = T.table x y.tree;
              course = λ K c. to-close o z x K c ∙ u (make make_table ∷ (to_come o (T.table x y.tree) ++ K)) (with_range y.tree (with_range x c))
                  ∙ makes-it text make_table (to_come o (T.table x y.tree) ++ K) l.next (with_range y.tree (with_range x c)) (with_extent (T.table x y.tree) c) l.state (λ j. refl);
              state = state-of v.counts v.kept ∙ ap closed_state (y.state ∙ state-of p.counts p.kept);
              extent = g x y.tree b y.ends;
              seen = v.seen;
            }

-- ---- Dimensions.

module _ {text : List ℕ} {w : Word} {s : State} where
  pub none_read : {e : Extent} → (kind_no w.kind ≡ open_bracket → ⊥) → Sized T.single e → Measures text w s (Ok (record { reached = record { next = w; state = s }; extent = e }))
  none_read n g o z = tells-ok (record { tree = T.single; course = λ K b. extent-none text w K b s o z n; state = refl; extent = g; seen = z })

  module _ (k : kind_no w.kind ≡ open_bracket) where
    pub not_opened : {e : Unread} → Took text w (after_word false Opens s) s (Err e) → Measures text w s (Err e)
    not_opened t o z = not-taken t (λ K. keep a_constant ∷ ask range_rest ∷ ask (rest_of o) ∷ K) same (λ K b. extent-opened text w K b s o k)

    module _ {a : Reached} (t : Took text w (after_word false Opens s) s (Ok a)) where
      in-bracket : Passed text w (after_word false Opens s) s a
      in-bracket = t.done refl

      to-first : (o : Whose) → Seen text w → (K : Stack) (b : Built) → runs text (ask (ask_of o) ∷ K) w b s ≡ runs text (keep a_constant ∷ ask range_rest ∷ ask (rest_of o) ∷ K) a.next b a.state
      to-first o z K b = extent-opened text w K b s o k ∙ took-done in-bracket z (keep a_constant ∷ ask range_rest ∷ ask (rest_of o) ∷ K) b

      pub no-range : {e : Unread} → Ranges text a.next a.state (Err e) → Measures text w s (Err e)
      no-range q o z = untold (q in-bracket.seen) (λ K. ask (rest_of o) ∷ K) same (to-first o z)

      pub range-read : {r : Ranged} → Ranges text a.next a.state (Ok r) → {m : Result Measured Unread} → Follows text r.reached.next r.reached.state r.ends m → Measures text w s m
      range-read {r} q {m} g o z = through (g o y.seen y.tree y.ends) (λ K. K) same to-rest read
        where
          y : RangeRead text a.next a.state r
          y = (q in-bracket.seen).done refl

          to-rest : (K : Stack) (b : Built) → runs text (ask (ask_of o) ∷ K) w b s ≡ runs text (ask (rest_of o) ∷ K) r.reached.next (with_range y.tree b) r.reached.state
          to-rest K b = to-first o z K b ∙ y.course (ask (rest_of o) ∷ K) b

          back : closed_state r.reached.state ≡ s
          back = ap closed_state (y.state ∙ state-of in-bracket.counts in-bracket.kept) ∙ let h : suc s.nesting - 1 ≡ s.nesting = omega arith in rw h

          read : (m : Measured) → ExtentRead text o (ask (rest_of o) ∷ []) (with_range y.tree) r.reached.next r.reached.state (closed_state r.reached.state) m → ExtentRead text o (ask (ask_of o) ∷ []) same w s s m
          read m v = record {
            tree = v.tree;
            course = λ K b. to-rest K b ∙ v.course K b;
            state = v.state ∙ back;
            extent = v.extent;
            seen = v.seen;
          }
