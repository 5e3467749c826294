-- What has a length by the relation of HasLength is judged fine, with that length. Assumes nothing.
use Rattle.std.specs.Prelude.{true, false, [], ◌≡◌, ℕ, suc, ◌+◌, ◌^◌, ◌≤◌, ◌<◌, max}
use Rattle.std.proofs.Math.Path.{refl, subst}
use Rattle.std.proofs.Common.{◌∙◌, mul-pos, pow_pos}
use Rattle.std.proofs.Math.Numerals.{add-one}
use native.Mathlib.Omega.{arith}
use borrow.Author.Tests.{eq-eqb, le-leb, ne_eqb}
use Rattle.language.specs.Description as D
use Rattle.language.specs.Description.{Bounds, Description, Node, NodePlaces, Places, number_of_constant, facility_at, is_computed, node_at, node_place, word_length}
use Rattle.language.specs.Expressions.{choice_judged, evenly, expression_at, judge_at, judge_below, judge_node, judge_step, longest_selector, not_before, own_work, selects, terminal_below, terminal_step}
use Rattle.language.specs.Judging.{Judged, Worth, arm_list, fine, proper, refuse, sized, worth}
use Rattle.language.specs.Operators.{binary_length, cut_length_of, prefix_length}
use Rattle.language.specs.Recursion.{below-lt}
use Rattle.language.specs.ReferenceRules.{bound_faults, computed_work, direction_faults, end_faults, reference_judged, subscript_faults, subscripts_judged}
use Rattle.language.specs.ReferenceRules as RR
use Rattle.language.specs.References as R
use Rattle.language.specs.References.{Subscripts, right_count, taken_length}
use Rattle.language.specs.declared.refusals.Refusal.TheVariants.{BadName}
use Rattle.language.specs.Value.{Value, complement_length, count_length, cut_length, difference_length, join_length, logical_length, negation_length, reduction_length, relation_length, repeat_length, sum_length}
use Rattle.language.specs.Ceilings.{longest}
use Rattle.language.specs.Words.{Position}
use Rattle.about_running.specs.PlaceFound.{some-length}
use Rattle.about_rules.specs.Declared.{both_so}
use Rattle.about_rules.specs.HasLength as H
use Rattle.about_rules.specs.HasLength.{Binary, Cut, Logical, Long, Notion, Part, Prefix, Relational, Subscript, Substring, arms, expression, facility, most_bits, most_case_bits}
use Rattle.about_rules.specs.JudgedFine.{Sound, fine-arms, fine-both, fine-given, fine-proper, fine-reference, fine-sized, none-append, none-unless}
use Rattle.about_rules.specs.WithinBounds.{part-tested, within_in}

pub most-bits : longest ≡ most_bits
unfolding longest
most-bits = refl

-- A conditional of as many arms as its condition selects.
pub selects-so : (l : ℕ) → l ≤ most_case_bits → selects l (2 ^ l) ≡ true
unfolding selects longest_selector
selects-so l h = both_so (le-leb l longest_selector h) (eq-eqb (2 ^ l) (2 ^ l) refl)

module _ (d : Description) (p : Places) where
  -- The record n, judged where the first `known` facilities may be named.
  abbrev pub judged : ℕ → ℕ → Judged
  judged known n = judge_at d p (terminal_below d p known) known n

  pub judge-lt : (known n a : ℕ) → a < n → judge_below d p (terminal_below d p known) known n a ≡ judged known a
  unfolding judge_below judge_at
  judge-lt known n a h = below-lt (not_before d p (terminal_below d p known) known) (judge_step d p (terminal_below d p known) known) n a h

  pub terminal-lt : (known f : ℕ) → f < known → terminal_below d p known f ≡ expression_at d p (terminal_below d p f) f (facility_at d f).expression
  unfolding terminal_below
  terminal-lt known f h = below-lt (refuse D.nowhere BadName) (terminal_step d p) known f h

  -- ---- What has a length is judged fine.

  -- Judged fine, with l bits and c arms.
  pub record Judges (known n c l : ℕ) : Type 0 where
    pub some : 1 ≤ l
    pub most : l ≤ most_bits
    pub work : ℕ
    pub same : judged known n ≡ worth l c work

  -- A facility that may be named.
  pub record Named (known f l : ℕ) : Type 0 where
    pub known-here : f < known
    pub length : word_length (facility_at d f) ≡ l
    pub worth-of : Worth
    pub same : computed_work d p (terminal_below d p known) f (facility_at d f) ≡ fine worth-of

  abbrev pub Verdict : ℕ → Notion → ℕ → ℕ → Type 0
  Verdict known expression n l = Judges known n 0 l
  Verdict known (arms c) n l = (1 ≤ c) × Judges known n c l
  Verdict known facility f l = Named known f l

  module _ (known n : ℕ) where
    abbrev ev : ℕ → Judged
    ev = judge_below d p (terminal_below d p known) known n

    part-fine : (q : Position) {a l : ℕ} → a < n → (j : Judges known a 0 l) → proper q (ev a) ≡ worth l 0 j.work
    part-fine q {a} h j = fine-proper q (ev a) (judge-lt known n a h ∙ j.same) refl

    arms-fine : (q : Position) {a c l : ℕ} → a < n → 1 ≤ c → (j : Judges known a c l) → arm_list q (ev a) ≡ worth l c j.work
    arms-fine q {a} h k j = fine-arms q (ev a) (judge-lt known n a h ∙ j.same) k

    sized-fine : (q : Position) (l k : ℕ) → 1 ≤ l → l ≤ most_bits → sized q l k ≡ worth l 0 k
    sized-fine q l k h m = fine-sized q l k h (rw most-bits m)

    constant-fine : {v : Value} → node_at d n ≡ D.constant v → 1 ≤ v.length → v.length ≤ most_bits → Judges known n 0 v.length
    unfolding judge_at judge_node
    constant-fine {v} e h m = record { some = h; most = m; work = own_work; same = rw e (sized-fine _ v.length own_work h m) }

    binary-fine : (k : ℕ) {a b l m r : ℕ} → Binary d n k a b → Judges known a 0 l → Judges known b 0 m → binary_length k l m ≡ r → 1 ≤ r → r ≤ most_bits → Judges known n 0 r
    unfolding judge_at judge_node
    binary-fine k {r = r} e i j o h m =
        record {
          some = h;
          most = m;
          work = own_work + i.work + j.work;
          same = rw e.0 (fine-both _ _ (λ v w. sized (node_place p n).at (binary_length k v.length w.length) (own_work + v.work + w.work))
              (part-fine _ e.1 i) (part-fine _ e.2 j) (rw o (sized-fine _ r _ h m)));
        }

    prefix-fine : (k : ℕ) {a l r : ℕ} → Prefix d n k a → Judges known a 0 l → prefix_length k l ≡ r → 1 ≤ r → r ≤ most_bits → Judges known n 0 r
    unfolding judge_at judge_node
    prefix-fine k {r = r} e i o h m =
        record {
          some = h;
          most = m;
          work = own_work + i.work;
          same = rw e.0 (fine-given _ (λ v. sized (node_place p n).at (prefix_length k v.length) (own_work + v.work)) (part-fine _ e.1 i) (rw o (sized-fine _ r _ h m)));
        }

    cut-fine : (k c : ℕ) {a l r : ℕ} → Cut d n k a c → Judges known a 0 l → cut_length_of k l c ≡ r → 1 ≤ r → r ≤ most_bits → Judges known n 0 r
    unfolding judge_at judge_node
    cut-fine k c {r = r} e i o h m =
        record {
          some = h;
          most = m;
          work = own_work + i.work;
          same = rw e.0 (fine-given _ (λ v. sized (node_place p n).at (cut_length_of k v.length c) (own_work + v.work)) (part-fine _ e.1 i) (rw o (sized-fine _ r _ h m)));
        }

    choice-fine : {e a l m : ℕ} → node_at d n ≡ D.choice e a (2 ^ l) → e < n → a < n → l ≤ most_case_bits → Judges known e 0 l → Judges known a (2 ^ l) m → Judges known n 0 m
    unfolding judge_at judge_node
    choice-fine {l = l} {m = m} e h k s i j =
        record {
          some = j.some;
          most = j.most;
          work = own_work + i.work + j.work;
          same = rw e (fine-both _ _ (choice_judged d p (terminal_below d p known) known (node_place p n).at (2 ^ l)) (part-fine _ h i) (arms-fine _ k (pow_pos l) j)
              (rw (both_so (selects-so l s) (eq-eqb (2 ^ l) (2 ^ l) refl)) (sized-fine _ m _ j.some j.most)));
        }

    first_fine : {e l : ℕ} → node_at d n ≡ D.first_arm e → e < n → Judges known e 0 l → Judges known n 1 l
    unfolding judge_at judge_node
    first_fine e h i =
        record { some = i.some; most = i.most; work = i.work; same = rw e (fine-given _ (λ v. worth v.length 1 v.work) (part-fine _ h i) refl) }

    evenly-so : (l : ℕ) → evenly l l ≡ l
    unfolding evenly
    evenly-so l = rw (eq-eqb l l refl)

    next-fine : {a e c l : ℕ} → node_at d n ≡ D.next_arm a e → a < n → e < n → 1 ≤ c → Judges known a c l → Judges known e 0 l → Judges known n (c + 1) l
    unfolding judge_at judge_node
    next-fine {c = c} {l = l} e h k s i j =
        record {
          some = i.some;
          most = i.most;
          work = i.work + j.work;
          same = rw e (fine-both _ _ (λ v w. worth (evenly v.length w.length) (suc v.arms) (v.work + w.work)) (arms-fine _ h s i) (part-fine _ k j)
              (rw (evenly-so l, add-one c)));
        }

    -- ---- References.

    abbrev at : NodePlaces
    at = node_place p n

    abbrev terminals : ℕ → Judged
    terminals = terminal_below d p known

    reference-fine : (f : ℕ) (u : Subscripts) {l : ℕ} {s t : Worth} → judged known n ≡ reference_judged d p terminals ev own_work known (record { facility = f; subscripts = u }) at
        → Sound d p terminals ev known (record { facility = f; subscripts = u }) at l s t → Judges known n 0 l
    reference-fine f u {s = s} {t = t} e h =
        record {
          some = h.some;
          most = rw most-bits at h.most;
          work = own_work + s.work + t.work;
          same = e ∙ fine-reference d p terminals ev own_work known (record { facility = f; subscripts = u }) at h;
        }

    subscript-clean : (b : Bounds) (e : ℕ) → Subscript d b e → subscript_faults d p terminals b e ≡ []
    subscript-clean b e h = go (node_at d e) refl
      where
        go : (x : Node) → node_at d e ≡ x → RR.constant_faults d p terminals b (node_place p e).at (number_of_constant x) ≡ []
        go (D.constant v) q = none-unless _ _ _ (within_in b _ (h v q))
        go (D.more m) q = refl
        go (D.whole f) q = refl
        go (D.one f g) q = refl
        go (D.part f x) q = refl
        go (D.two f g i) q = refl
        go (D.word_part f g x) q = refl
        go (D.binary k a c) q = refl
        go (D.prefix k a) q = refl
        go (D.cut k a c) q = refl
        go (D.first_arm g) q = refl
        go (D.next_arm a g) q = refl
        go (D.choice g a m) q = refl
        go D.Node.broken q = refl

    ends-clean : (b x : Bounds) {l : ℕ} → Part b x l → end_faults d p terminals b x at ≡ []
    ends-clean b x h = let t = part-tested b x h in none-append _ _ (none-unless _ _ _ t.first-in) (none-unless _ _ _ t.last-in)

    whole-fine : {f l : ℕ} → node_at d n ≡ D.whole f → (facility_at d f).dimensions ≤ 1 → Named known f l → l ≤ most_bits → Judges known n 0 l
    unfolding judge_at judge_node right_count taken_length subscripts_judged bound_faults direction_faults
    whole-fine {f} e h i m =
        reference-fine f R.whole (rw e) (record {
          known-here = i.known-here;
          count = le-leb _ 1 h;
          worked = refl;
          bound = refl;
          direction = refl;
          terminal = i.same;
          taken = i.length;
          some = subst (λ (k : ℕ). 1 ≤ k) i.length (some-length (facility_at d f));
          most = rw most-bits m;
        })

    bit-fine : {f e l m : ℕ} → node_at d n ≡ D.one f e → e < n → (facility_at d f).dimensions ≡ 1 → Named known f l → Judges known e 0 m
        → Subscript d (facility_at d f).bits e → Judges known n 0 1
    unfolding judge_at judge_node right_count taken_length subscripts_judged bound_faults direction_faults
    bit-fine {f} {e} q h k i j b =
        reference-fine f (R.one e) (rw q) (record {
          known-here = i.known-here;
          count = both_so (le-leb 1 (facility_at d f).dimensions (omega arith)) (le-leb (facility_at d f).dimensions 2 (omega arith));
          worked = part-fine _ h j;
          bound = rw (eq-eqb _ 1 k) (subscript-clean _ e b);
          direction = refl;
          terminal = i.same;
          taken = rw (eq-eqb (facility_at d f).dimensions 1 k);
          some = omega arith;
          most = rw most-bits (omega arith);
        })

    word-fine : {f e l m : ℕ} → node_at d n ≡ D.one f e → e < n → (facility_at d f).dimensions ≡ 2 → Named known f l → Judges known e 0 m
        → Subscript d (facility_at d f).words e → l ≤ most_bits → Judges known n 0 l
    unfolding judge_at judge_node right_count taken_length subscripts_judged bound_faults direction_faults
    word-fine {f} {e} q h k i j b m =
        reference-fine f (R.one e) (rw q) (record {
          known-here = i.known-here;
          count = both_so (le-leb 1 (facility_at d f).dimensions (omega arith)) (le-leb (facility_at d f).dimensions 2 (omega arith));
          worked = part-fine _ h j;
          bound = rw (ne_eqb (facility_at d f).dimensions 1 (λ z. omega arith)) (subscript-clean _ e b);
          direction = refl;
          terminal = i.same;
          taken = rw (ne_eqb (facility_at d f).dimensions 1 (λ z. omega arith)) i.length;
          some = subst (λ (k : ℕ). 1 ≤ k) i.length (some-length (facility_at d f));
          most = rw most-bits m;
        })

    part-of-fine : {f l m : ℕ} {x : Bounds} → node_at d n ≡ D.part f x → (facility_at d f).dimensions ≡ 1 → Named known f l
        → Part (facility_at d f).bits x m → m ≤ most_bits → Judges known n 0 m
    unfolding judge_at judge_node right_count taken_length subscripts_judged bound_faults direction_faults
    part-of-fine {f} {x = x} q k i b m =
        let t = part-tested _ x b in
        reference-fine f (R.part x) (rw q) (record {
          known-here = i.known-here;
          count = eq-eqb _ 1 k;
          worked = refl;
          bound = ends-clean _ x b;
          direction = none-unless _ _ _ t.direction;
          terminal = i.same;
          taken = t.length;
          some = t.some;
          most = rw most-bits m;
        })

    word-bit-fine : {f e g l m o : ℕ} → node_at d n ≡ D.two f e g → e < n → g < n → (facility_at d f).dimensions ≡ 2 → Named known f l
        → Judges known e 0 m → Subscript d (facility_at d f).words e → Judges known g 0 o → Subscript d (facility_at d f).bits g → Judges known n 0 1
    unfolding judge_at judge_node right_count taken_length subscripts_judged bound_faults direction_faults
    word-bit-fine {f} {e} {g} q h h' k i j b j' b' =
        reference-fine f (R.two e g) (rw q) (record {
          known-here = i.known-here;
          count = eq-eqb _ 2 k;
          worked = fine-both _ _ (RR.added_work d p terminals) (part-fine _ h j) (part-fine _ h' j') refl;
          bound = none-append _ _ (subscript-clean _ e b) (subscript-clean _ g b');
          direction = refl;
          terminal = i.same;
          taken = refl;
          some = omega arith;
          most = rw most-bits (omega arith);
        })

    word-part-fine : {f e l m o : ℕ} {x : Bounds} → node_at d n ≡ D.word_part f e x → e < n → (facility_at d f).dimensions ≡ 2 → Named known f l
        → Judges known e 0 m → Subscript d (facility_at d f).words e → Part (facility_at d f).bits x o → o ≤ most_bits → Judges known n 0 o
    unfolding judge_at judge_node right_count taken_length subscripts_judged bound_faults direction_faults
    word-part-fine {f} {e} {x = x} q h k i j b c m =
        let t = part-tested _ x c in
        reference-fine f (R.word_part e x) (rw q) (record {
          known-here = i.known-here;
          count = eq-eqb _ 2 k;
          worked = part-fine _ h j;
          bound = none-append _ _ (subscript-clean _ e b) (ends-clean _ x c);
          direction = none-unless _ _ _ t.direction;
          terminal = i.same;
          taken = t.length;
          some = t.some;
          most = rw most-bits m;
        })

    -- ---- Facilities that may be named: n is the facility's number.

    stored-fine : n < known → is_computed (facility_at d n).kind ≡ false → Named known n (word_length (facility_at d n))
    stored-fine h c = record { known-here = h; length = refl; worth-of = record { length = 1; arms = 0; work = 0 }; same = rw c }

    computed-fine : {m : ℕ} → n < known → is_computed (facility_at d n).kind ≡ true → Judges n (facility_at d n).expression 0 m → Named known n (word_length (facility_at d n))
    computed-fine {m} h c j =
        record { known-here = h; length = refl; worth-of = record { length = m; arms = 0; work = j.work }; same = rw c (terminal-lt known n h ∙ fine-proper _ _ j.same refl) }

  -- ---- The lengths of the operators, as judging works them out.

  relation-length : {k : ℕ} → Relational k → (l m : ℕ) → binary_length k l m ≡ 1
  unfolding binary_length relation_length
  relation-length H.equals l m = refl
  relation-length H.unequal l m = refl
  relation-length H.less l m = refl
  relation-length H.greater l m = refl
  relation-length H.at-most l m = refl
  relation-length H.at_least l m = refl

  logical-length : {k : ℕ} → Logical k → (l m : ℕ) → binary_length k l m ≡ max l m
  unfolding binary_length logical_length
  logical-length H.either l m = refl
  logical-length H.each l m = refl
  logical-length H.exclusive l m = refl

  reduced-length : {k : ℕ} → Logical k → (l : ℕ) → prefix_length k l ≡ 1
  unfolding prefix_length reduction_length
  reduced-length H.either l = refl
  reduced-length H.each l = refl
  reduced-length H.exclusive l = refl

  substring-length : {k : ℕ} → Substring k → (l c : ℕ) → c ≤ l → cut_length_of k l c ≡ c
  unfolding cut_length_of cut_length
  substring-length H.head l c h = rw (le-leb c l h)
  substring-length H.tail l c h = rw (le-leb c l h)

  pub long-is-fine : {known n l : ℕ} {s : Notion} → Long d known s n l → Verdict known s n l
  unfolding binary_length prefix_length cut_length_of sum_length difference_length join_length negation_length complement_length count_length repeat_length
  long-is-fine {known} {n} (H.constant e h m) = constant-fine known n e h m
  long-is-fine {known} {n} (H.sum e a b m) = let i = long-is-fine a in binary-fine known n _ e i (long-is-fine b) refl (omega arith) m
  long-is-fine {known} {n} (H.difference e a b m) = binary-fine known n _ e (long-is-fine a) (long-is-fine b) refl (omega arith) m
  long-is-fine {known} {n} (H.negation e a m) = prefix-fine known n _ e (long-is-fine a) refl (omega arith) m
  long-is-fine {known} {n} (H.relation r e a b) = binary-fine known n _ e (long-is-fine a) (long-is-fine b) (relation-length r _ _) (omega arith) (omega arith)
  long-is-fine {known} {n} (H.complement e a) = let i = long-is-fine a in prefix-fine known n _ e i refl i.some i.most
  long-is-fine {known} {n} (H.logical r e a b) =
      let i = long-is-fine a in
      let j = long-is-fine b in
      binary-fine known n _ e i j (logical-length r _ _) (omega (arith, i.some)) (omega (arith, i.most, j.most))
  long-is-fine {known} {n} (H.joined e a b m) = let i = long-is-fine a in binary-fine known n _ e i (long-is-fine b) refl (omega (arith, i.some)) m
  long-is-fine {known} {n} (H.extended e a h m) = let i = long-is-fine a in cut-fine known n _ _ e i refl (mul-pos i.some h) m
  long-is-fine {known} {n} (H.substring r e a h m) = let i = long-is-fine a in cut-fine known n _ _ e i (substring-length r _ _ m) h (omega (arith, i.most))
  long-is-fine {known} {n} (H.reduced r e a) = prefix-fine known n _ e (long-is-fine a) (reduced-length r _) (omega arith) (omega arith)
  long-is-fine {known} {n} (H.counted e a) = prefix-fine known n _ e (long-is-fine a) refl (omega arith) (omega arith)
  long-is-fine {known} {n} (H.if-else q h k e a) = choice-fine known n {l = 1} q h k (omega arith) (long-is-fine e) (long-is-fine a).1
  long-is-fine {known} {n} (H.case q h k e m a) = choice-fine known n q h k m (long-is-fine e) (long-is-fine a).1
  long-is-fine {known} {n} (H.first q h e) = (omega arith, first_fine known n q h (long-is-fine e))
  long-is-fine {known} {n} (H.next q h k a e) = let i = long-is-fine a in (omega arith, next-fine known n q h k i.0 i.1 (long-is-fine e))
  long-is-fine {known} {n} (H.whole q h f m) = whole-fine known n q h (long-is-fine f) m
  long-is-fine {known} {n} (H.bit q h k f e b) = bit-fine known n q h k (long-is-fine f) (long-is-fine e) b
  long-is-fine {known} {n} (H.part q k f x m) = part-of-fine known n q k (long-is-fine f) x m
  long-is-fine {known} {n} (H.word q h k f e b m) = word-fine known n q h k (long-is-fine f) (long-is-fine e) b m
  long-is-fine {known} {n} (H.word-bit q h h' k f e b g c) = word-bit-fine known n q h h' k (long-is-fine f) (long-is-fine e) b (long-is-fine g) c
  long-is-fine {known} {n} (H.word-part q h k f e b x m) = word-part-fine known n q h k (long-is-fine f) (long-is-fine e) b x m
  long-is-fine {known} {n} (H.stored h c) = stored-fine known n h c
  long-is-fine {known} {n} (H.computed h c e) = computed-fine known n h c (long-is-fine e)
