-- From a tree to a description: records in the order of the text, an expression's parts before it, a conditional before its arms; names resolved.
use Rattle.std.specs.Prelude.{List, [], ◌∷◌, ◌++◌, ℕ, zero, suc, ◌+◌, ◌-◌, ◌*◌, ◌/◌, ◌%◌, ◌^◌, min}
use Rattle.language.specs.Description.{Action, Bounds, Node, NodePlaces, bounds, digit_length, further_digits, node_places}
use Rattle.language.specs.Description as D
use Rattle.language.specs.Naming.{Scope, meaning, of_facility, of_operation, of_state}
use Rattle.language.specs.Tree as T
use Rattle.language.specs.Tree.{Actions, Ends, Expression, Left}
use Rattle.language.specs.Value.{Value}
use Rattle.language.specs.Words.{Position}

-- An expression record with its places.
pub record Noted : Type 0 where
  pub node : Node
  pub places : NodePlaces

abbrev pub noted : Node → Position → Noted
noted n p = record { node = n; places = node_places p }

abbrev pub noted_part : Node → Position → Ends → Noted
noted_part n p x = record { node = n; places = record { at = p; first = x.first_at; last = x.last_at } }

-- No rule tells bounds and ends of parts above 65,535 apart: 65,536 stands for what is more.
unfoldable pub bound : ℕ → ℕ
bound n = min n 65536

-- Nor counts above 256: 65,535 stands for what is more.
unfoldable pub count : ℕ → ℕ
count n = min n 65535

abbrev pub bounds_of : Ends → Bounds
bounds_of x = bounds (bound x.first.value.number) (bound x.last.value.number)

-- ---- How many records things take.

unfoldable pub constant_size : Value → ℕ
unfolding further_digits
constant_size v = suc (further_digits v.length)

unfoldable pub expression_size : Expression → ℕ
expression_size (T.constant c p) = constant_size c.value
expression_size (T.whole n p) = 1
expression_size (T.one n p e) = expression_size e + 1
expression_size (T.part n p x) = 1
expression_size (T.two n p e f) = expression_size e + expression_size f + 1
expression_size (T.word_part n p e x) = expression_size e + 1
expression_size (T.binary k p e f) = expression_size e + expression_size f + 1
expression_size (T.prefix k p e) = expression_size e + 1
expression_size (T.cut k p e c) = expression_size e + 1
expression_size (T.choice p e f) = expression_size e + expression_size f + 1
expression_size (T.first_arm e) = expression_size e + 1
expression_size (T.next_arm e f) = expression_size e + expression_size f + 1

abbrev pub left_size : Left → ℕ
left_size (T.single e) = expression_size e
left_size (T.pair e f) = expression_size e + expression_size f

-- Expression records and action records of a list.
unfoldable pub expressions_in : Actions → ℕ
expressions_in T.done = 0
expressions_in (T.store k p l e a) = left_size l + expression_size e + expressions_in a
expressions_in (T.set p e a) = expression_size e + expressions_in a
expressions_in (T.perform n p a) = expressions_in a
expressions_in (T.goto n p a) = expressions_in a
expressions_in (T.call n p a) = expressions_in a
expressions_in (T.return p a) = expressions_in a
expressions_in (T.when p e l a) = expression_size e + expressions_in l + expressions_in a
expressions_in (T.choose p e l a) = expression_size e + expressions_in l + expressions_in a
expressions_in (T.arm l a) = expressions_in l + expressions_in a

unfoldable pub actions_in : Actions → ℕ
actions_in T.done = 0
actions_in (T.store k p l e a) = suc (actions_in a)
actions_in (T.set p e a) = suc (actions_in a)
actions_in (T.perform n p a) = suc (actions_in a)
actions_in (T.goto n p a) = suc (actions_in a)
actions_in (T.call n p a) = suc (actions_in a)
actions_in (T.return p a) = suc (actions_in a)
actions_in (T.when p e l a) = suc (suc (actions_in l) + actions_in a)
actions_in (T.choose p e l a) = suc (actions_in l + actions_in a)
actions_in (T.arm l a) = suc (actions_in l + actions_in a)

-- The arms of a conditional.
unfoldable pub arms_of : Expression → ℕ
arms_of (T.constant c p) = 0
arms_of (T.whole n p) = 0
arms_of (T.one n p e) = 0
arms_of (T.part n p x) = 0
arms_of (T.two n p e f) = 0
arms_of (T.word_part n p e x) = 0
arms_of (T.binary k p e f) = 0
arms_of (T.prefix k p e) = 0
arms_of (T.cut k p e c) = 0
arms_of (T.choice p e f) = 0
arms_of (T.first_arm e) = 1
arms_of (T.next_arm e f) = suc (arms_of e)

unfoldable pub arms_in : Actions → ℕ
arms_in T.done = 0
arms_in (T.store k p l e a) = 0
arms_in (T.set p e a) = 0
arms_in (T.perform n p a) = 0
arms_in (T.goto n p a) = 0
arms_in (T.call n p a) = 0
arms_in (T.return p a) = 0
arms_in (T.when p e l a) = 0
arms_in (T.choose p e l a) = 0
arms_in (T.arm l a) = suc (arms_in a)

-- ---- Expressions. `base` is the number of the first record; the last record is the expression's own.

-- The number of the record that ends n records from `base` on.
abbrev pub last_of : ℕ → ℕ → ℕ
last_of base n = base + n - 1

-- The digits of a wide constant above the lowest, highest first, and the constant.
unfoldable pub digits_above : ℕ → ℕ → Position → List Noted → List Noted
unfolding digit_length
digits_above zero n p rest = rest
digits_above (suc k) n p rest =
    noted (D.more (n / 2 ^ (digit_length * suc k) % 2 ^ digit_length)) p ∷ digits_above k n p rest

unfoldable pub constant_nodes : Value → Position → List Noted
unfolding further_digits
constant_nodes v p = digits_above (further_digits v.length) v.number p (noted (D.constant v) p ∷ [])

module _ (s : Scope) where
  unfoldable pub nodes_of : ℕ → Expression → List Noted
  nodes_of base (T.constant c p) = constant_nodes c.value p
  nodes_of base (T.whole n p) = noted (of_facility (meaning s n) D.whole) p ∷ []
  nodes_of base (T.one n p e) =
      nodes_of base e ++ noted (of_facility (meaning s n) (λ f. D.one f (last_of base (expression_size e)))) p ∷ []
  nodes_of base (T.part n p x) = noted_part (of_facility (meaning s n) (λ f. D.part f (bounds_of x))) p x ∷ []
  nodes_of base (T.two n p e g) =
      let next = base + expression_size e in
      nodes_of base e ++ (nodes_of next g ++ noted (of_facility (meaning s n) (λ f. D.two f (last_of base (expression_size e)) (last_of next (expression_size g)))) p ∷ [])
  nodes_of base (T.word_part n p e x) =
      nodes_of base e ++ noted_part (of_facility (meaning s n) (λ f. D.word_part f (last_of base (expression_size e)) (bounds_of x))) p x ∷ []
  nodes_of base (T.binary k p e g) =
      let next = base + expression_size e in
      nodes_of base e ++ (nodes_of next g ++ noted (D.binary k (last_of base (expression_size e)) (last_of next (expression_size g))) p ∷ [])
  nodes_of base (T.prefix k p e) = nodes_of base e ++ noted (D.prefix k (last_of base (expression_size e))) p ∷ []
  nodes_of base (T.cut k p e c) = nodes_of base e ++ noted (D.cut k (last_of base (expression_size e)) (count c.value.number)) p ∷ []
  nodes_of base (T.choice p e g) =
      let next = base + expression_size e in
      nodes_of base e ++ (nodes_of next g ++ noted (D.choice (last_of base (expression_size e)) (last_of next (expression_size g)) (arms_of g)) p ∷ [])
  nodes_of base (T.first_arm e) = nodes_of base e ++ noted (D.first_arm (last_of base (expression_size e))) D.nowhere ∷ []
  nodes_of base (T.next_arm e g) =
      let next = base + expression_size e in
      nodes_of base e ++ (nodes_of next g ++ noted (D.next_arm (last_of base (expression_size e)) (last_of next (expression_size g))) D.nowhere ∷ [])

  abbrev pub left_nodes : ℕ → Left → List Noted
  left_nodes base (T.single e) = nodes_of base e
  left_nodes base (T.pair e f) = nodes_of base e ++ nodes_of (base + expression_size e) f

  -- The expressions of a list of actions.
  unfoldable pub nodes_in : ℕ → Actions → List Noted
  nodes_in base T.done = []
  nodes_in base (T.store k p l e a) =
      let right = base + left_size l in
      left_nodes base l ++ (nodes_of right e ++ nodes_in (right + expression_size e) a)
  nodes_in base (T.set p e a) = nodes_of base e ++ nodes_in (base + expression_size e) a
  nodes_in base (T.perform n p a) = nodes_in base a
  nodes_in base (T.goto n p a) = nodes_in base a
  nodes_in base (T.call n p a) = nodes_in base a
  nodes_in base (T.return p a) = nodes_in base a
  nodes_in base (T.when p e l a) =
      let inner = base + expression_size e in
      nodes_of base e ++ (nodes_in inner l ++ nodes_in (inner + expressions_in l) a)
  nodes_in base (T.choose p e l a) =
      let inner = base + expression_size e in
      nodes_of base e ++ (nodes_in inner l ++ nodes_in (inner + expressions_in l) a)
  nodes_in base (T.arm l a) = nodes_in base l ++ nodes_in (base + expressions_in l) a

-- ---- Actions. `base` is the number of the first expression record of the list.

pub record NotedAction : Type 0 where
  pub action : Action
  pub at : Position

abbrev pub act : Action → Position → NotedAction
act a p = record { action = a; at = p }

abbrev pub store_of : ℕ → ℕ → Left → Expression → Action
store_of k base (T.single l) e = D.store k (last_of base (expression_size l)) (last_of (base + expression_size l) (expression_size e))
store_of k base (T.pair l m) e =
    let second = base + expression_size l in
    D.store_pair k (last_of base (expression_size l)) (last_of second (expression_size m)) (last_of (second + expression_size m) (expression_size e))

module _ (s : Scope) where
  unfoldable pub actions_of : ℕ → Actions → List NotedAction
  actions_of base T.done = []
  actions_of base (T.store k p l e a) = act (store_of k base l e) p ∷ actions_of (base + left_size l + expression_size e) a
  actions_of base (T.set p e a) = act (D.set (last_of base (expression_size e))) p ∷ actions_of (base + expression_size e) a
  actions_of base (T.perform n p a) = act (of_operation (meaning s n) D.perform) p ∷ actions_of base a
  actions_of base (T.goto n p a) = act (of_state (meaning s n) D.goto) p ∷ actions_of base a
  actions_of base (T.call n p a) = act (of_state (meaning s n) D.call) p ∷ actions_of base a
  actions_of base (T.return p a) = act D.return p ∷ actions_of base a
  actions_of base (T.when p e l a) =
      let inner = base + expression_size e in
      act (D.when (last_of base (expression_size e)) (suc (actions_in l))) p
      ∷ act (D.arm (actions_in l)) p
      ∷ (actions_of inner l ++ actions_of (inner + expressions_in l) a)
  actions_of base (T.choose p e l a) =
      let inner = base + expression_size e in
      act (D.choose (last_of base (expression_size e)) (arms_in l) (actions_in l)) p
      ∷ (actions_of inner l ++ actions_of (inner + expressions_in l) a)
  actions_of base (T.arm l a) = act (D.arm (actions_in l)) D.nowhere ∷ (actions_of base l ++ actions_of (base + expressions_in l) a)
