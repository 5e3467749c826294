-- The signs among the words that the grammar derives are symbols and reserved words: by induction over the derivation, a line for each rule. Assumes nothing.
use Rattle.std.specs.Prelude.{Bool, true, false, ◌||◌, List, [], ◌∷◌, ◌++◌, ◌≡◌, refl, ℕ, eqb}
use Rattle.std.proofs.Common.{eqb-true}
use Rattle.language.specs.Grammar as G
use Rattle.language.specs.Grammar.{Is}
use Rattle.language.specs.Kinds.{at_least_sign, at_most_sign, delayed_sign, difference_sign, end_word, equal_sign, exclusive_sign, ext_word, greater_sign, hash, head_word, less_sign, period, plus, same_sign, star, sum_sign, tail_word}
use Rattle.language.specs.Notions.{Notion, Tree, ends_section, is_store}
use Rattle.language.specs.Operators.{is_arithmetic, is_cut, is_reduction, is_relation}
use Rattle.language.specs.Words.{Word}
use Rattle.about_texts.specs.WrittenWords.{AllSigned, SignRight}

signed-both : (us vs : List Word) → AllSigned us → AllSigned vs → AllSigned (us ++ vs)
signed-both [] vs h k = k
signed-both (u ∷ us) vs h k = (h.0, signed-both us vs h.1 k)

this-kind : (k a : ℕ) → SignRight a → eqb k a ≡ true → SignRight k
this-kind k a h e = rw (eqb-true k a e) h

-- One of some kinds.
kind-of : (k a : ℕ) (b : Bool) → SignRight a → (b ≡ true → SignRight k) → (b || eqb k a) ≡ true → SignRight k
kind-of k a b h f e = go b refl e
  where
    go : (x : Bool) → b ≡ x → (x || eqb k a) ≡ true → SignRight k
    go true q z = f q
    go false q z = this-kind k a h z

reduction-sign : (k : ℕ) → is_reduction k ≡ true → SignRight k
reduction-sign k = kind-of k sum_sign _ refl (kind-of k exclusive_sign _ refl (kind-of k star _ refl (this-kind k plus refl)))

cut-sign : (k : ℕ) → is_cut k ≡ true → SignRight k
cut-sign k = kind-of k ext_word _ refl (kind-of k tail_word _ refl (this-kind k head_word refl))

relation-sign : (k : ℕ) → is_relation k ≡ true → SignRight k
relation-sign k = kind-of k at_least_sign _ refl (kind-of k at_most_sign _ refl (kind-of k greater_sign _ refl (kind-of k less_sign _ refl (kind-of k hash _ refl (this-kind k same_sign refl)))))

arithmetic-sign : (k : ℕ) → is_arithmetic k ≡ true → SignRight k
arithmetic-sign k = kind-of k difference_sign _ refl (this-kind k sum_sign refl)

store-sign : (k : ℕ) → is_store k ≡ true → SignRight k
store-sign k = kind-of k equal_sign _ refl (this-kind k delayed_sign refl)

ending-sign : (k : ℕ) → ends_section k ≡ true → SignRight k
ending-sign k = kind-of k end_word _ refl (this-kind k period refl)

pub signed : {n : Notion} {h : ℕ} {us : List Word} {t : Tree} → Is n h us t → AllSigned us
signed G.ref-whole = (tt, tt)
signed (G.ref-one c {us = us} a1) = (tt, (refl, signed-both us _ (signed a1) (refl, tt)))
signed G.ref-part = (tt, (refl, (tt, (refl, (tt, (refl, tt))))))
signed (G.ref-two c k {us = us} {vs = vs} a1 a2) = (tt, (refl, signed-both us _ (signed a1) (refl, signed-both vs _ (signed a2) (refl, tt))))
signed (G.ref-two-apart c k l {us = us} {vs = vs} a1 a2) = (tt, (refl, signed-both us _ (signed a1) (refl, (refl, signed-both vs _ (signed a2) (refl, tt)))))
signed (G.ref-word-part c k l {us = us} a1) = (tt, (refl, signed-both us _ (signed a1) (refl, (tt, (refl, (tt, (refl, tt)))))))
signed (G.ref-word-part-apart c k l m {us = us} a1) = (tt, (refl, signed-both us _ (signed a1) (refl, (refl, (tt, (refl, (tt, (refl, tt))))))))
signed (G.or-one a1) = signed a1
signed (G.or-more {us = us} a1 a2) = signed-both us _ (signed a1) (refl, signed a2)
signed (G.exclusive-one a1) = signed a1
signed (G.exclusive-more {us = us} a1 a2) = signed-both us _ (signed a1) (refl, signed a2)
signed (G.and_one a1) = signed a1
signed (G.and-more {us = us} a1 a2) = signed-both us _ (signed a1) (refl, signed a2)
signed (G.complement-none a1) = signed a1
signed (G.complement-of a1) = (refl, signed a1)
signed (G.con-one a1) = signed a1
signed (G.con-more {us = us} a1 a2) = signed-both us _ (signed a1) (refl, signed a2)
signed (G.reduction-none a1) = signed a1
signed (G.reduction-of {k = k} a1 a2) = (reduction-sign k a1, (refl, signed a2))
signed (G.cut-none a1) = signed a1
signed (G.cut-more {k = k} {us = us} q a1 a2) = signed-both us _ (signed a2) (cut-sign k a1, (tt, tt))
signed (G.relation-none a1) = signed a1
signed (G.relation-of {k = k} {us = us} a1 a2 a3) = signed-both us _ (signed a2) (relation-sign k a1, signed a3)
signed (G.arithmetic-one a1) = signed a1
signed (G.negation-of a1) = (refl, signed a1)
signed (G.arithmetic-more {k = k} {us = us} a1 a2 a3) = signed-both us _ (signed a2) (arithmetic-sign k a1, signed a3)
signed (G.term-reference a1) = signed a1
signed G.term-constant = (tt, tt)
signed (G.term-parens {us = us} q a1) = (refl, signed-both us _ (signed a1) (refl, tt))
signed (G.term-if {us = us} {vs = vs} {ws = ws} q r s a1 a2 a3) = (refl, signed-both us _ (signed a1) (refl, signed-both vs _ (signed a2) (refl, signed-both ws _ (signed a3) (refl, tt))))
signed (G.term-case {us = us} {vs = vs} q a1 a2) = (refl, signed-both us _ (signed a1) (signed-both vs _ (signed a2) (refl, tt)))
signed (G.arms-two {us = us} q a1 a2) = (refl, signed-both us _ (signed a1) (refl, signed a2))
signed (G.arms_next {us = us} p a1 a2) = signed-both us _ (signed a1) (refl, signed a2)
signed (G.left_one a1) = signed a1
signed (G.left-two {us = us} p a1 a2) = signed-both us _ (signed a1) (refl, signed a2)
signed (G.act-store {k = k} {us = us} {vs = vs} a1 a2 a3 a4) = signed-both us _ (signed a2) (store-sign k a1, signed-both vs _ (signed a3) (signed a4))
signed (G.act-set {us = us} a1 a2) = signed-both us _ (signed a1) (refl, signed a2)
signed (G.act-perform a1) = (tt, signed a1)
signed (G.act-goto a1) = (refl, (tt, signed a1))
signed (G.act-call a1) = (refl, (tt, signed a1))
signed (G.act-return a1) = (refl, signed a1)
signed (G.act-when {us = us} {vs = vs} r q a1 a2 a3) = (refl, signed-both us _ (signed a1) (refl, signed-both vs _ (signed a2) (refl, signed a3)))
signed (G.act-if {us = us} {vs = vs} {xs = xs} t r q a1 a2 a3 a4) = (refl, signed-both us _ (signed a1) (refl, signed-both vs _ (signed a2) (refl, signed-both xs _ (signed a3) (refl, signed a4))))
signed (G.act-case {us = us} {vs = vs} q a1 a2 a3) = (refl, signed-both us _ (signed a1) (signed-both vs _ (signed a2) (refl, signed a3)))
signed G.rest-none = tt
signed (G.rest_more a1) = (refl, signed a1)
signed (G.arms-one {us = us} a1 a2) = (refl, signed-both us _ (signed a1) (signed a2))
signed G.arms_end = tt
signed (G.arms_more a1) = signed a1
signed G.range-both = (tt, (refl, (tt, tt)))
signed G.range_last = (tt, tt)
signed G.no-dimension = tt
signed (G.one-dimension {us = us} q a1) = (refl, signed-both us _ (signed a1) (refl, tt))
signed (G.two-dimensions {us = us} {vs = vs} q r a1 a2) = (refl, signed-both us _ (signed a1) (refl, signed-both vs _ (signed a2) (refl, tt)))
signed (G.a-register a1) = (tt, signed a1)
signed (G.a-sequencing a1) = (refl, (tt, signed a1))
signed (G.a_memory a1) = (tt, signed a1)
signed (G.a-terminal a1) = (tt, signed a1)
signed (G.an-input {us = us} q r s t u v w c a1 a2) = (tt, signed-both us _ (signed a2) (refl, (refl, (refl, (tt, (refl, (tt, (refl, tt))))))))
signed (G.a-computed {us = us} a1 a2 a3) = (tt, signed-both us _ (signed a2) (refl, signed a3))
signed (G.registers-one a1) = signed a1
signed (G.registers-more {us = us} p a1 a2) = signed-both us _ (signed a1) (refl, signed a2)
signed (G.memories-one a1) = signed a1
signed (G.memories-more {us = us} p a1 a2) = signed-both us _ (signed a1) (refl, signed a2)
signed (G.terminals-one a1) = signed a1
signed (G.terminals-more {us = us} p a1 a2) = signed-both us _ (signed a1) (refl, signed a2)
signed (G.an-ending {k = k} a1) = (ending-sign k a1, tt)
signed (G.register-section {us = us} a1 a2) = (refl, signed-both us _ (signed a1) (signed a2))
signed (G.memory-section {us = us} a1 a2) = (refl, signed-both us _ (signed a1) (signed a2))
signed (G.terminal-section {us = us} a1 a2) = (refl, signed-both us _ (signed a1) (signed a2))
signed G.no-memories = tt
signed (G.some-memories a1) = signed a1
signed G.no-terminals = tt
signed (G.some-terminals a1) = signed a1
signed (G.with-registers {us = us} {vs = vs} a1 a2 a3) = signed-both us _ (signed a1) (signed-both vs _ (signed a2) (signed a3))
signed (G.with-memories {us = us} a1 a2) = signed-both us _ (signed a1) (signed a2)
signed (G.with-terminals a1) = signed a1
signed (G.operations-one {us = us} q r s a1) = (tt, (refl, (refl, signed-both us _ (signed a1) (refl, tt))))
signed (G.operations-more {us = us} q r s t a1 a2) = (tt, (refl, (refl, signed-both us _ (signed a1) (refl, (refl, signed a2)))))
signed G.no-ending = tt
signed (G.some-ending a1) = signed a1
signed G.no-operations = tt
signed (G.some-operations {us = us} a1 a2) = (refl, signed-both us _ (signed a1) (signed a2))
signed G.no_label = tt
signed G.plain_label = (tt, (refl, tt))
signed G.label-with-value = (tt, (refl, (tt, (refl, (refl, tt)))))
signed (G.states-one a1) = signed a1
signed (G.states-more {us = us} a1 a2) = signed-both us _ (signed a1) (signed a2)
signed (G.state-idle {us = us} p a1) = signed-both us _ (signed a1) (refl, tt)
signed (G.state-acting {us = us} {vs = vs} p a1 a2) = signed-both us _ (signed a1) (signed-both vs _ (signed a2) (refl, tt))
signed (G.control-section {us = us} a1 a2) = (refl, signed-both us _ (signed a1) (signed a2))
signed G.no-dollar = tt
signed G.some-dollar = (refl, tt)
signed (G.whole-text {us = us} {vs = vs} {ws = ws} a1 a2 a3 a4) = signed-both us _ (signed a1) (signed-both vs _ (signed a2) (signed-both ws _ (signed a3) (signed a4)))
