-- The machine's counts behind some words are those of its tale.
use Rattle.std.specs.Prelude.{Bool, true, false, cond, List, [], ◌∷◌, ◌++◌, ◌≡◌, refl, ℕ, zero, suc, ◌-◌, eqb, drop}
use Rattle.std.proofs.Common.{append-nil, ◌∙◌, ap, sym, arith}
use Rattle.std.proofs.Math.Option.{Option, none, some}
use Rattle.language.specs.Building.{Built, name_of, word_no}
use Rattle.language.specs.Declaring.{tree_steps}
use Rattle.language.specs.Kinds.{a_name}
use Rattle.language.specs.Machine.{Alternative, Ask, Bearing, Counts, Fed, Reading, Sym, Tally, Without, again, ask, bears, choose, closes, counted, ease, facility, feed, keep, kept_if, leave, level, make, may, more, must, nested, opens, operand, operation, reading, state, stuck, tallied, took, word, wrong}
use Rattle.language.specs.Scan.{same}
use Rattle.language.specs.SectionWays.{rule_of}
use Rattle.language.specs.Words.{Fault, Word, kind_of, word_at}
use Rattle.about_grammar.specs.Calm.{all_right_lem, all_right, calm, calm-append, calm-below, calm-top, counts, not_so, on_top, top_waits, waits}
use Rattle.about_grammar.specs.Ceilingless.{all}
use Rattle.about_grammar.specs.Courses.{Stack}
use Rattle.about_grammar.specs.FineWays.{both_first, both-second}
use Rattle.about_grammar.specs.Following.{among}
use Rattle.about_grammar.specs.Stacks.{choose-none, false-true, kinds_of}
use Rattle.about_grammar.specs.Tale.{Eaten, ate, bearing, eat, fewer, next_among, pick, pick-none, settled, waiting, waits-on, waits_for}
use Rattle.language.specs.Tests.{both}

-- ---- Numbers.

pub fewer-one : (n : ℕ) → fewer n ≡ n - 1
fewer-one zero = omega arith
fewer-one (suc n) = omega arith

bearing-so : (g : Bearing) (n : ℕ) → bearing g n ≡ bears g n
bearing-so level n = refl
bearing-so opens n = refl
bearing-so closes n = fewer-one n

pub tallied-nested : (ts : List Tally) (n : ℕ) (c : Counts) → tallied ts (nested n c) ≡ nested n (tallied ts c)
unfolding tallied
tallied-nested [] n c = refl
tallied-nested (facility ∷ ts) n c = tallied-nested ts n (more facility c)
tallied-nested (operation ∷ ts) n c = tallied-nested ts n (more operation c)
tallied-nested (state ∷ ts) n c = tallied-nested ts n (more state c)
tallied-nested (counted ∷ ts) n c = tallied-nested ts n (more counted c)

pub tallied-nesting : (ts : List Tally) (c : Counts) → (tallied ts c).nesting ≡ c.nesting
unfolding tallied
tallied-nesting [] c = refl
tallied-nesting (facility ∷ ts) c = tallied-nesting ts (more facility c)
tallied-nesting (operation ∷ ts) c = tallied-nesting ts (more operation c)
tallied-nesting (state ∷ ts) c = tallied-nesting ts (more state c)
tallied-nesting (counted ∷ ts) c = tallied-nesting ts (more counted c)

pub tallied-append : (ts us : List Tally) (c : Counts) → tallied (ts ++ us) c ≡ tallied us (tallied ts c)
unfolding tallied
tallied-append [] us c = refl
tallied-append (t ∷ ts) us c = tallied-append ts us (more t c)

pub settled-append : (o : Option (List ℕ)) (vs : List Word) (ts : List Tally) → settled o vs ts ≡ ts ++ settled o vs []
settled-append none vs ts = sym (append-nil ts)
settled-append (some ks) vs ts = go (next_among vs ks)
  where
    go : (b : Bool) → cond b ts (ts ++ counted ∷ []) ≡ ts ++ cond b [] (counted ∷ [])
    go true = sym (append-nil ts)
    go false = refl

-- ---- Counts with the word kept last, where it counts.

abbrev pub settled_counts : Stack → Counts → List Word → Counts
settled_counts K c vs = tallied (settled (waits_for K) vs []) c

waiting-not : (o : Without Built) (ks : List ℕ) → counts o ≡ false → waiting o ks ≡ none
waiting-not must ks e = refl
waiting-not (may f) ks e = refl
waiting-not (operand f) ks e = false-true (sym e)

not-true : (a : Bool) → (a ≡ true → ⊥) → a ≡ false
not-true true f = absurd (f refl)
not-true false f = refl

pub quiet : (K : Stack) → (top_waits K ≡ true → ⊥) → waits_for K ≡ none
unfolding waits_for waits
quiet [] h = refl
quiet (word k g ∷ K) h = refl
quiet (keep k ∷ K) h = refl
quiet (again ∷ K) h = refl
quiet (make f ∷ K) h = refl
quiet (ease ∷ K) h = refl
quiet (ask n ∷ K) h = waiting-not (rule_of tree_steps n).without (kinds_of (rule_of tree_steps n).ways) (not-true (counts (rule_of tree_steps n).without) h)

calm-quiet : (K : Stack) → calm K ≡ true → waits_for K ≡ none
calm-quiet K e = quiet K (calm-top K e)

settled-quiet : (K : Stack) → calm K ≡ true → (c : Counts) (vs : List Word) → settled_counts K c vs ≡ c
unfolding tallied
settled-quiet K e c vs = ap (λ (o : Option (List ℕ)). tallied (settled o vs []) c) (calm-quiet K e)

-- ---- A word taken.

pub record Stepped (K : Stack) (r : Reading Built) (w : Word) (L : Stack) (q : Reading Built) : Type 0 where
  pub tallies : List Tally
  pub eaten : eat K r.counts.nesting w ≡ ate L q.counts.nesting tallies (waits_for L)
  pub counting : (vs : List Word) → q.counts ≡ nested q.counts.nesting (tallied tallies (settled_counts K r.counts (w ∷ vs)))
  pub below : calm (drop 1 L) ≡ true
  pub kept : top_waits L ≡ true → word_no 0 q.built ≡ w

pub data SteppedFed (K : Stack) (r : Reading Built) (w : Word) : Fed Built → Type 0 where
  stepped : (L : Stack) (q : Reading Built) → Stepped K r w L q → SteppedFed K r w (took L q)
  refused : (f : Fault) → SteppedFed K r w (wrong f)

-- A word of the stack, taken as it stands.
plainly : (s : Sym Built) (K : Stack) → waits_for (s ∷ K) ≡ none → calm K ≡ true → (r : Reading Built) (w : Word) (b : Built) (n : ℕ) → eat (s ∷ K) r.counts.nesting w ≡ ate K n [] none → Stepped (s ∷ K) r w K (reading b (nested n r.counts))
unfolding tallied
plainly s K q h r w b n e = record {
  tallies = [];
  eaten = e ∙ ap (ate K n []) (sym (calm-quiet K h));
  counting = λ vs. ap (λ (o : Option (List ℕ)). nested n (tallied (settled o (w ∷ vs) []) r.counts)) (sym q);
  below = calm-below K h;
  kept = λ f. absurd (calm-top K h f);
}

record Picked (xs : List (Alternative Built)) (w : Word) (K : Stack) (r : Reading Built) : Type 0 where
  alt : Alternative Built
  choosing : (o : Fed Built) → choose tree_steps all xs w K r o ≡ took (alt.to ++ cond alt.instead (drop 1 K) K) (reading (kept_if tree_steps all alt.kept w (alt.first (word_at w) r.built)) (nested (bears alt.bearing r.counts.nesting) (tallied alt.tallies r.counts)))
  picking : (n : ℕ) (o : Eaten) → pick xs w K n o ≡ ate (alt.to ++ cond alt.instead (drop 1 K) K) (bearing alt.bearing n) alt.tallies (waits_for alt.to)
  right : both (calm (drop 1 alt.to)) (cond (top_waits alt.to) alt.kept true) ≡ true

picked : (xs : List (Alternative Built)) → all_right xs ≡ true → (w : Word) → among (kind_of w) (kinds_of xs) ≡ true → (K : Stack) (r : Reading Built) → Picked xs w K r
unfolding choose pick among all_right
picked [] a w e K r = false-true e
picked (x ∷ xs) a w e K r = go (eqb (kind_of w) x.on) refl e (λ h. picked xs (both-second (both (calm (drop 1 x.to)) (cond (top_waits x.to) x.kept true)) (all_right xs) a) w h K r)
  where
    go : (z : Bool) → eqb (kind_of w) x.on ≡ z → cond z true (among (kind_of w) (kinds_of xs)) ≡ true → (among (kind_of w) (kinds_of xs) ≡ true → Picked xs w K r) → Picked (x ∷ xs) w K r
    go true q h rec = record { alt = x; choosing = λ o. rw q refl; picking = λ n o. rw q refl; right = both_first (both (calm (drop 1 x.to)) (cond (top_waits x.to) x.kept true)) (all_right xs) a }
    go false q h rec = let y = rec h in record { alt = y.alt; choosing = λ o. rw q (y.choosing o); picking = λ n o. rw q (y.picking n o); right = y.right }

rest-calm : (z : Bool) (K : Stack) → calm K ≡ true → calm (cond z (drop 1 K) K) ≡ true
rest-calm true K e = calm-below K e
rest-calm false K e = e

behind-calm : (P K : Stack) (k : Bool) → both (calm (drop 1 P)) (cond (top_waits P) k true) ≡ true → calm K ≡ true → calm (drop 1 (P ++ K)) ≡ true
behind-calm [] K k e f = calm-below K f
behind-calm (s ∷ P) K k e f = calm-append P K (both_first (calm P) (cond (on_top s) k true) e) f

kept_there : (P K : Stack) (k : Bool) (w : Word) (b : Built) → both (calm (drop 1 P)) (cond (top_waits P) k true) ≡ true → calm K ≡ true → top_waits (P ++ K) ≡ true → word_no 0 (kept_if tree_steps all k w b) ≡ w
unfolding word_no
kept_there [] K k w b e f t = absurd (calm-top K f t)
kept_there (s ∷ P) K true w b e f t = refl
kept_there (s ∷ P) K false w b e f t = not_so (sym (rw t) ∙ both-second (calm P) (cond (on_top s) false true) e)

pub settled-begun : (o : Without Built) (ks : List ℕ) (w : Word) (vs : List Word) → among (kind_of w) ks ≡ true → settled (waiting o ks) (w ∷ vs) [] ≡ []
settled-begun must ks w vs e = refl
settled-begun (may f) ks w vs e = refl
settled-begun (operand f) ks w vs e = rw e refl

by_way : (n : Ask) (K : Stack) → calm K ≡ true → (r : Reading Built) (w : Word) → among (kind_of w) (kinds_of (rule_of tree_steps n).ways) ≡ true → SteppedFed (ask n ∷ K) r w (feed tree_steps all (rule_of tree_steps) (ask n ∷ K) w r)
unfolding feed eat waits_for tallied
by_way n K h r w e = go (picked (rule_of tree_steps n).ways (all_right_lem n) w e K r)
  where
    go : Picked (rule_of tree_steps n).ways w K r → SteppedFed (ask n ∷ K) r w (choose tree_steps all (rule_of tree_steps n).ways w K r (leave tree_steps all (rule_of tree_steps n).without w r (λ q. feed tree_steps all (rule_of tree_steps) K w q)))
    go y =
        let a = y.alt in
        let rest = cond a.instead (drop 1 K) K in
        rw (y.choosing _) (stepped _ _ (record {
          tallies = a.tallies;
          eaten = y.picking r.counts.nesting _ ∙ ap (λ (m : ℕ). ate (a.to ++ rest) m a.tallies (waits_for a.to)) (bearing-so a.bearing r.counts.nesting) ∙ ap (ate (a.to ++ rest) (bears a.bearing r.counts.nesting) a.tallies) (sym (waits-on a.to rest (calm-quiet rest (rest-calm a.instead K h))));
          counting = λ vs. ap (λ (ts : List Tally). nested (bears a.bearing r.counts.nesting) (tallied a.tallies (tallied ts r.counts))) (sym (settled-begun (rule_of tree_steps n).without (kinds_of (rule_of tree_steps n).ways) w vs e));
          below = behind-calm a.to rest a.kept y.right (rest-calm a.instead K h);
          kept = kept_there a.to rest a.kept w (a.first (word_at w) r.built) y.right (rest-calm a.instead K h);
        }))

-- A step that takes no word comes before.
after-step : {K : Stack} {r s : Reading Built} {w : Word} {f : Fed Built} (M : Stack) → eat M r.counts.nesting w ≡ eat K s.counts.nesting w
    → ((vs : List Word) (ts : List Tally) (n : ℕ) → nested n (tallied ts (settled_counts K s.counts (w ∷ vs))) ≡ nested n (tallied ts (settled_counts M r.counts (w ∷ vs)))) → SteppedFed K s w f → SteppedFed M r w f
after-step M e c (stepped L q x) = stepped L q (record { tallies = x.tallies; eaten = e ∙ x.eaten; counting = λ vs. x.counting vs ∙ c vs x.tallies q.counts.nesting; below = x.below; kept = x.kept })
after-step M e c (refused f) = refused f

pub feed-stepped : (K : Stack) → calm (drop 1 K) ≡ true → (w : Word) (r : Reading Built) → SteppedFed K r w (feed tree_steps all (rule_of tree_steps) K w r)
unfolding feed eat tallied waits_for
feed-stepped [] h w r = refused _
feed-stepped (word k g ∷ K) h w r = go (eqb (kind_of w) k) refl
  where
    go : (z : Bool) → eqb (kind_of w) k ≡ z → SteppedFed (word k g ∷ K) r w (cond z (took K (reading r.built (nested (bears g r.counts.nesting) r.counts))) (stuck tree_steps all w))
    go true e = stepped K _ (plainly (word k g) K refl h r w r.built (bears g r.counts.nesting) (rw e (ap (λ (m : ℕ). ate K m [] none) (bearing-so g r.counts.nesting))))
    go false e = refused _
feed-stepped (keep k ∷ K) h w r = go (eqb (kind_of w) k) refl
  where
    go : (z : Bool) → eqb (kind_of w) k ≡ z → SteppedFed (keep k ∷ K) r w (cond z (took K (reading (tree_steps.keep_word w r.built) r.counts)) (stuck tree_steps all w))
    go true e = stepped K _ (plainly (keep k) K refl h r w (tree_steps.keep_word w r.built) r.counts.nesting (rw e refl))
    go false e = refused _
feed-stepped (again ∷ K) h w r = go (eqb (kind_of w) a_name) refl (same (name_of w) (tree_steps.declared_name r.built))
  where
    go : (z : Bool) → eqb (kind_of w) a_name ≡ z → (y : Bool) → SteppedFed (again ∷ K) r w (cond (both z y) (took K r) (stuck tree_steps all w))
    go true e true = stepped K _ (plainly again K refl h r w r.built r.counts.nesting (rw e refl))
    go true e false = refused _
    go false e y = refused _
feed-stepped (make f ∷ K) h w r = after-step (make f ∷ K) refl (λ vs ts n. ap (λ (c : Counts). nested n (tallied ts c)) (settled-quiet K h r.counts (w ∷ vs))) (feed-stepped K (calm-below K h) w (reading (f (word_at w) r.built) r.counts))
feed-stepped (ease ∷ K) h w r =
    after-step (ease ∷ K) (ap (λ (m : ℕ). eat K m w) (fewer-one r.counts.nesting))
    (λ vs ts n. ap (λ (c : Counts). nested n (tallied ts c)) (settled-quiet K h (nested (r.counts.nesting - 1) r.counts) (w ∷ vs)) ∙ ap (nested n) (tallied-nested ts (r.counts.nesting - 1) r.counts))
    (feed-stepped K (calm-below K h) w (reading r.built (nested (r.counts.nesting - 1) r.counts)))
feed-stepped (ask n ∷ K) h w r = go (among (kind_of w) (kinds_of (rule_of tree_steps n).ways)) refl (rule_of tree_steps n).without refl (λ s. feed-stepped K (calm-below K h) w s)
  where
    go : (z : Bool) → among (kind_of w) (kinds_of (rule_of tree_steps n).ways) ≡ z → (o : Without Built) → (rule_of tree_steps n).without ≡ o → ((s : Reading Built) → SteppedFed K s w (feed tree_steps all (rule_of tree_steps) K w s))
        → SteppedFed (ask n ∷ K) r w (feed tree_steps all (rule_of tree_steps) (ask n ∷ K) w r)
    go true e o q rec = by_way n K h r w e
    go false e must q rec = rw (choose-none tree_steps all (rule_of tree_steps n).ways w e K r _, q) (refused _)
    go false e (may f) q rec =
        rw (choose-none tree_steps all (rule_of tree_steps n).ways w e K r _, q)
        (after-step (ask n ∷ K) (rw q (pick-none (rule_of tree_steps n).ways w e K r.counts.nesting (eat K r.counts.nesting w)))
        (λ vs ts m. ap (λ (c : Counts). nested m (tallied ts c)) (settled-quiet K h r.counts (w ∷ vs)) ∙ rw q refl) (rec (reading (f (word_at w) r.built) r.counts)))
    go false e (operand f) q rec =
        rw (choose-none tree_steps all (rule_of tree_steps n).ways w e K r _, q)
        (after-step (ask n ∷ K) (rw q (pick-none (rule_of tree_steps n).ways w e K r.counts.nesting (eat K r.counts.nesting w)))
        (λ vs ts m. ap (λ (c : Counts). nested m (tallied ts c)) (settled-quiet K h (more counted r.counts) (w ∷ vs)) ∙ rw (q, e) refl) (rec (reading (f (word_at w) r.built) (more counted r.counts))))

-- A word that begins a way is taken.
pub takes-way : (n : Ask) (K : Stack) (r : Reading Built) (w : Word) → among (kind_of w) (kinds_of (rule_of tree_steps n).ways) ≡ true → (L : Stack) × (q : Reading Built) × (feed tree_steps all (rule_of tree_steps) (ask n ∷ K) w r ≡ took L q)
unfolding feed
takes-way n K r w e = let y = picked (rule_of tree_steps n).ways (all_right_lem n) w e K r in (_, _, y.choosing _)
