-- Words that the machine takes one after the other: what they count is what the texts that begin with them say.
use Rattle.std.specs.Prelude.{Bool, true, false, cond, List, [], ◌∷◌, ◌++◌, ◌≡◌, refl, ℕ, suc, drop, length, take}
use Rattle.std.proofs.Common.{◌∙◌, ap, sym, subst, arith}
use Rattle.language.specs.Building.{Built, word_no}
use Rattle.language.specs.Declaring.{tree_steps}
use Rattle.language.specs.Machine
use Rattle.language.specs.Machine.{Ask, Counts, Fed, Reading, Tally, after, ask, counted, facility, feed, finish, leave, more, nested, no_counts, operand, operation, parsed, reading, run, sections, state, tallied, took, within_ceilings}
use Rattle.language.specs.SectionWays.{parse_with, rule_of}
use Rattle.language.specs.BuildSteps.{Step}
use Rattle.language.specs.Words.{Word, position}
use Rattle.about_grammar.specs.Accepting.{Proper}
use Rattle.about_grammar.specs.Calm.{calm, top_waits, waits}
use Rattle.about_grammar.specs.Ceilingless.{all}
use Rattle.about_grammar.specs.Complete.{fits_under, most}
use Rattle.about_grammar.specs.Completed.{completed}
use Rattle.about_grammar.specs.Completing.{HeadIs, follows, proper-on, runs_on}
use Rattle.about_grammar.specs.Counting.{Mark, counts_behind}
use Rattle.about_grammar.specs.Courses.{Stack, Under}
use Rattle.about_grammar.specs.Fine.{Fine, bad, head_of}
use Rattle.about_grammar.specs.Following.{Follows, among, among-within, within}
use Rattle.about_grammar.specs.Places.{Begins, IsText, Within, counts_to}
use Rattle.about_grammar.specs.Refusals.{ChainOf, begun, start, start_fine, under-fits}
use Rattle.about_grammar.specs.Sound.{sound-unbounded}
use Rattle.about_grammar.specs.Stacks.{choose-none, false-true, kinds_of}
use Rattle.about_grammar.specs.StaysFine.{stays-fine}
use Rattle.about_grammar.specs.Stepping.{Stepped, SteppedFed, feed-stepped, settled-append, settled_counts, stepped, tallied-append, tallied-nested, tallied-nesting}
use Rattle.about_grammar.specs.Stops.{a_word, no_word}
use Rattle.about_grammar.specs.Tale.{Eaten, settled, tale, told, waits_for}
use Rattle.about_grammar.specs.Told.{telling}

taken-stepped : {K L : Stack} {r q : Reading Built} {w : Word} → SteppedFed K r w (took L q) → Stepped K r w L q
taken-stepped (stepped L q x) = x

pub step_of : {K L : Stack} {r q : Reading Built} {w : Word} → calm (drop 1 K) ≡ true → feed tree_steps all (rule_of tree_steps) K w r ≡ took L q → Stepped K r w L q
step_of {K} {r = r} {w = w} h e = taken-stepped (subst (SteppedFed K r w) e (feed-stepped K h w r))

-- The words are taken, whatever their counts.
pub data Walk : Stack → Reading Built → List Word → Stack → Reading Built → Type 0 where
  no_step : {K : Stack} {r : Reading Built} → Walk K r [] K r
  a-step : {K L M : Stack} {r q s : Reading Built} {us : List Word} (w : Word) → feed tree_steps all (rule_of tree_steps) K w r ≡ took L q → Walk L q us M s → Walk K r (w ∷ us) M s

pub walk : {K M : Stack} {r s : Reading Built} {us : List Word} → ChainOf K r us M s → Walk K r us M s
walk no_word = no_step
walk (a_word w e g c) = a-step w e (walk c)

pub chain-calm : {K M : Stack} {r s : Reading Built} {us : List Word} → Walk K r us M s → calm (drop 1 K) ≡ true → calm (drop 1 M) ≡ true
chain-calm no_step h = h
chain-calm (a-step w e c) h = chain-calm c (step_of h e).below

pub chain-fine : {K M : Stack} {r s : Reading Built} {us : List Word} → Walk K r us M s → Fine K → Fine M
chain-fine no_step h = h
chain-fine (a-step {K} {L} {r = r} {q} w e c) h = chain-fine c (stays-fine K w r L q e h)

pub chain-reach : {K M : Stack} {r s : Reading Built} {us : List Word} → Walk K r us M s → (vs : List Word) (end : ℕ) → run tree_steps all (rule_of tree_steps) K (us ++ vs) end r ≡ run tree_steps all (rule_of tree_steps) M vs end s
unfolding run
chain-reach no_step vs end = refl
chain-reach (a-step {us = us} w e c) vs end = ap (λ (z : Fed Built). after tree_steps all (rule_of tree_steps) z (λ L q. run tree_steps all (rule_of tree_steps) L (us ++ vs) end q)) e ∙ chain-reach c vs end

pub chain-within : {K M : Stack} {r s : Reading Built} {us : List Word} → ChainOf K r us M s → Within r.counts → Within s.counts
chain-within no_word h = h
chain-within (a_word w e g c) h = chain-within c g

pub chain-on : {K L M : Stack} {r q s : Reading Built} {us : List Word} (w : Word) → Walk K r us L q → feed tree_steps all (rule_of tree_steps) L w q ≡ took M s → Walk K r (us ++ w ∷ []) M s
chain-on w no_step e = a-step w e no_step
chain-on w (a-step v d c) e = a-step v d (chain-on w c e)

-- A chain in two.
pub record Halves (K : Stack) (r : Reading Built) (us vs : List Word) (M : Stack) (s : Reading Built) : Type 0 where
  pub stack : Stack
  pub sofar : Reading Built
  pub first : ChainOf K r us stack sofar
  pub second : ChainOf stack sofar vs M s

pub halves : (us vs : List Word) {K M : Stack} {r s : Reading Built} → ChainOf K r (us ++ vs) M s → Halves K r us vs M s
halves [] vs {K} {r = r} c = record { stack = K; sofar = r; first = no_word; second = c }
halves (u ∷ us) vs (a_word w e g c) = let h = halves us vs c in record { stack = h.stack; sofar = h.sofar; first = a_word w e g h.first; second = h.second }

-- ---- Counts.

pub counts-on : {K M : Stack} {r s : Reading Built} {us : List Word} → Walk K r us M s → calm (drop 1 K) ≡ true → (vs : List Word) → counts_behind (take (length us) (tale K r.counts.nesting (us ++ vs))) (settled_counts K r.counts (us ++ vs)) ≡ settled_counts M s.counts vs
unfolding counts_behind tale
counts-on no_step h vs = refl
counts-on {K} {r = r} (a-step {L = L} {q = q} {us = us} w e c) h vs =
    let x = step_of h e in
    let m = q.counts.nesting in
    ap (λ (z : Eaten). counts_behind (take (suc (length us)) (told z (us ++ vs) (λ N k. tale N k (us ++ vs)))) (settled_counts K r.counts (w ∷ (us ++ vs)))) x.eaten
    ∙ ap (counts_behind (take (length us) (tale L m (us ++ vs)))) (so x)
    ∙ counts-on c x.below vs
  where
    so : (x : Stepped K r w L q) → nested q.counts.nesting (tallied (settled (waits_for L) (us ++ vs) x.tallies) (settled_counts K r.counts (w ∷ (us ++ vs)))) ≡ settled_counts L q.counts (us ++ vs)
    so x =
        let c₀ = settled_counts K r.counts (w ∷ (us ++ vs)) in
        let m = q.counts.nesting in
        let kept = settled (waits_for L) (us ++ vs) [] in
        ap (λ (ts : List Tally). nested m (tallied ts c₀)) (settled-append (waits_for L) (us ++ vs) x.tallies)
        ∙ ap (nested m) (tallied-append x.tallies kept c₀)
        ∙ sym (tallied-nested kept m (tallied x.tallies c₀))
        ∙ ap (tallied kept) (sym (x.counting (us ++ vs)))

pub start-calm : calm (drop 1 start) ≡ true
unfolding calm
start-calm = refl

-- What the words of a chain count, in any text that begins with them.
pub text-counts : {ws : List Word} (us vs : List Word) → ws ≡ us ++ vs → {M : Stack} {s : Reading Built} → Walk start begun us M s → (t : IsText ws) → counts_to (length us) t ≡ settled_counts M s.counts vs
unfolding waits_for rule_of tallied counts_to
text-counts us vs e c t = ap (λ (ms : List Mark). counts_behind (take (length us) ms) no_counts) (sym (telling t.derived 0) ∙ ap (tale start 0) e) ∙ counts-on c start-calm vs

pub chain-below : {us : List Word} {M : Stack} {s : Reading Built} → Walk start begun us M s → calm (drop 1 M) ≡ true
chain-below c = chain-calm c start-calm

-- ---- Counts that grow.

grown : (ts : List Tally) (c : Counts) → Under most (tallied ts c) → Under most c
unfolding tallied
grown [] c u = u
grown (facility ∷ ts) c u = let v = grown ts (more facility c) u in record { facilities = omega (arith, v.facilities); operations = v.operations; states = v.states; counted = v.counted; nesting = v.nesting }
grown (operation ∷ ts) c u = let v = grown ts (more operation c) u in record { facilities = v.facilities; operations = omega (arith, v.operations); states = v.states; counted = v.counted; nesting = v.nesting }
grown (state ∷ ts) c u = let v = grown ts (more state c) u in record { facilities = v.facilities; operations = v.operations; states = omega (arith, v.states); counted = v.counted; nesting = v.nesting }
grown (counted ∷ ts) c u = let v = grown ts (more counted c) u in record { facilities = v.facilities; operations = v.operations; states = v.states; counted = omega (arith, v.counted); nesting = v.nesting }

pub still-past : (ts : List Tally) (c : Counts) → within_ceilings c ≡ false → within_ceilings (tallied ts c) ≡ false
still-past ts c e = go (within_ceilings (tallied ts c)) refl
  where
    go : (b : Bool) → within_ceilings (tallied ts c) ≡ b → b ≡ false
    go true q = false-true (sym e ∙ fits_under c (grown ts c (under-fits (tallied ts c) q)))
    go false q = refl

-- Where the next word is taken within the ceilings, the word kept last is within them.
pub settled-within : (K L : Stack) (r q : Reading Built) (w : Word) → calm (drop 1 K) ≡ true → feed tree_steps all (rule_of tree_steps) K w r ≡ took L q → Within r.counts → Within q.counts → (vs : List Word) → Within (settled_counts K r.counts (w ∷ vs))
settled-within K L r q w h e i j vs =
    let x = step_of h e in
    let c = settled_counts K r.counts (w ∷ vs) in
    let u : Under most (nested q.counts.nesting (tallied x.tallies c)) = under-fits _ (subst Within (x.counting vs) j) in
    let v : Under most (nested c.nesting (tallied x.tallies c)) = record { facilities = u.facilities; operations = u.operations; states = u.states; counted = u.counted; nesting = rw (tallied-nesting (settled (waits_for K) (w ∷ vs) []) r.counts) (under-fits r.counts i).nesting } in
    fits_under c (grown x.tallies c (subst (Under most) (sym (same-nesting x.tallies c)) v))
  where
    same-nesting : (ts : List Tally) (c : Counts) → tallied ts c ≡ nested c.nesting (tallied ts c)
    same-nesting ts c = ap (λ (n : ℕ). nested n (tallied ts c)) (tallied-nesting ts c)

-- Behind each word of a chain but the last the counts are within the ceilings, whatever then follows.
pub before-within : {K M : Stack} {r s : Reading Built} {us : List Word} (w : Word) → ChainOf K r (w ∷ us) M s → calm (drop 1 K) ≡ true → Within r.counts → (vs : List Word) → Within (settled_counts K r.counts ((w ∷ us) ++ vs))
before-within {us = us} _ (a_word w e g c) h i vs = settled-within _ _ _ _ w h e i g (us ++ vs)

-- The word kept last is the last of the chain.
pub kept-last : {K M : Stack} {r s : Reading Built} (us : List Word) (x : Word) → Walk K r (us ++ x ∷ []) M s → calm (drop 1 K) ≡ true → top_waits M ≡ true → word_no 0 s.built ≡ x
kept-last [] x (a-step _ e no_step) h t = (step_of h e).kept t
kept-last (u ∷ us) x (a-step _ e c) h t = kept-last us x c (step_of h e).below t

-- ---- Texts that begin with a chain.

unfoldable pub chain-text : {us : List Word} {M : Stack} {s : Reading Built} → Proper us → Walk start begun us M s → (vs : List Word) → Proper vs → (b : Built) → runs_on M vs s.built s.counts ≡ parsed b → Begins us
unfolding parse_with
chain-text {us} p c vs q b e = record { more = vs; is-text = record { depth = length (us ++ vs); tree = b.text; derived = sound-unbounded (us ++ vs) 0 b (proper-on us vs p q) (chain-reach c vs 0 ∙ e) } }

pub chain-begins : {us : List Word} {M : Stack} {s : Reading Built} → Proper us → Walk start begun us M s → Begins us
chain-begins {M = M} {s} p c = let r = completed M (chain-fine c start_fine) s.built s.counts in chain-text p c r.words r.proper r.result r.accepted

-- ---- A notion that waits for the word kept last, left out.

leaves-on : (n : Ask) (f : Step Built) → (rule_of tree_steps n).without ≡ operand f → (K : Stack) (b : Built) (c : Counts) (k : ℕ) (ws : List Word) → Follows (kinds_of (rule_of tree_steps n).ways) ws → HeadIs k ws → runs_on (ask n ∷ K) ws b c ≡ runs_on K ws (f (position 0) b) (more counted c)
unfolding run feed finish
leaves-on n f e K b c k [] h p = rw e refl
leaves-on n f e K b c k (w ∷ ws) h p =
    ap (λ (z : Fed Built). after tree_steps all (rule_of tree_steps) z (λ L q. run tree_steps all (rule_of tree_steps) L ws 0 q))
    (choose-none tree_steps all (rule_of tree_steps n).ways w h K (reading b c) (leave tree_steps all (rule_of tree_steps n).without w (reading b c) (λ q. feed tree_steps all (rule_of tree_steps) K w q)) ∙ left)
  where
    left : leave tree_steps all (rule_of tree_steps n).without w (reading b c) (λ q. feed tree_steps all (rule_of tree_steps) K w q) ≡ feed tree_steps all (rule_of tree_steps) K w (reading (f (position 0) b) (more counted c))
    left = rw (e, p.1) refl

-- What begins it is among what its stack does not go on with: a test, computed for each notion.
waits-bad : (n : Ask) → cond (waits n) (within (kinds_of (rule_of tree_steps n).ways) (bad n)) true ≡ true
unfolding waits rule_of within among
waits-bad Machine.expression = refl
waits-bad Machine.minterm = refl
waits-bad Machine.product = refl
waits-bad Machine.complement = refl
waits-bad Machine.reduction = refl
waits-bad Machine.adjustment = refl
waits-bad Machine.arithmetic = refl
waits-bad Machine.term = refl
waits-bad Machine.or_tail = refl
waits-bad Machine.exclusive_tail = refl
waits-bad Machine.and_tail = refl
waits-bad Machine.con_tail = refl
waits-bad Machine.cut_tail = refl
waits-bad Machine.relation_tail = refl
waits-bad Machine.arithmetic_tail = refl
waits-bad Machine.more_arms = refl
waits-bad Machine.subscripts = refl
waits-bad Machine.subscript = refl
waits-bad Machine.after_constant = refl
waits-bad Machine.operand_rest = refl
waits-bad Machine.after_subscript = refl
waits-bad Machine.second_option = refl
waits-bad Machine.second = refl
waits-bad Machine.after_second_constant = refl
waits-bad Machine.second_rest = refl
waits-bad Machine.second_end = refl
waits-bad Machine.operation_action = refl
waits-bad Machine.state_action = refl
waits-bad Machine.operation_more = refl
waits-bad Machine.state_rest = refl
waits-bad Machine.state_more = refl
waits-bad Machine.operation_name = refl
waits-bad Machine.state_name = refl
waits-bad Machine.left_rest = refl
waits-bad Machine.store_sign = refl
waits-bad Machine.set_sign = refl
waits-bad Machine.operation_if_rest = refl
waits-bad Machine.state_if_rest = refl
waits-bad Machine.operation_arms = refl
waits-bad Machine.state_arms = refl
waits-bad Machine.dimensions = refl
waits-bad Machine.range_rest = refl
waits-bad Machine.dimension_rest = refl
waits-bad Machine.register_spec = refl
waits-bad Machine.sequencing_spec = refl
waits-bad Machine.memory_spec = refl
waits-bad Machine.terminal_spec = refl
waits-bad Machine.register_more = refl
waits-bad Machine.memory_more = refl
waits-bad Machine.terminal_more = refl
waits-bad Machine.terminal_dimensions = refl
waits-bad Machine.terminal_rest = refl
waits-bad Machine.terminal_function = refl
waits-bad Machine.function_of = refl
waits-bad Machine.operation_spec = refl
waits-bad Machine.operations_more = refl
waits-bad Machine.state_start = refl
waits-bad Machine.first_name = refl
waits-bad Machine.state_body = refl
waits-bad Machine.states_more = refl
waits-bad Machine.sections = refl
waits-bad Machine.after_registers = refl
waits-bad Machine.after_memories = refl
waits-bad Machine.after_terminals = refl
waits-bad Machine.control = refl
waits-bad Machine.dollar_option = refl

pub record Left (n : Ask) (K : Stack) (b : Built) (c : Counts) : Type 0 where
  pub words : List Word
  pub proper : Proper words
  pub none-begins : Follows (kinds_of (rule_of tree_steps n).ways) words
  pub result : Built
  pub accepted : runs_on (ask n ∷ K) words b c ≡ parsed result

pub left_out : (n : Ask) (f : Step Built) → (rule_of tree_steps n).without ≡ operand f → (K : Stack) → Fine (ask n ∷ K) → (b : Built) (c : Counts) → Left n K b c
unfolding waits
left_out n f e K h b c =
    let r = completed K h.1 (f (position 0) b) (more counted c) in
    let g : within (kinds_of (rule_of tree_steps n).ways) (bad n) ≡ true = sym (rw e refl) ∙ waits-bad n in
    let o = follows (head_of K) (kinds_of (rule_of tree_steps n).ways) r.words r.head (among-within (head_of K) (kinds_of (rule_of tree_steps n).ways) (bad n) g h.0) in
    record { words = r.words; proper = r.proper; none-begins = o; result = r.result; accepted = leaves-on n f e K b c (head_of K) r.words o r.head ∙ r.accepted }
