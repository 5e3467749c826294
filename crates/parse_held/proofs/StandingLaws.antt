-- What stands in the tables are the sections of the description, and the bytes of its places.
use mathlib.Core.List.{List, [], ◌∷◌, ◌++◌, map}
use mathlib.Core.Path.{◌≡◌, refl, ap}
use Prim.Native.Nat.{ℕ}
use Rattle.language.specs.Description.{Description, Places}
use Rattle.language.specs.Encode.{Sections, concat, encode, image_of, name_bytes, sections_of}
use Rattle.judge_records.specs.Noted.{Beside}
use Rattle.parse_tables.specs.declared.Table.{Table}
use Rattle.parse_tables.specs.declared.Table.TheVariants as T
use Rattle.parse_tables.specs.Names.{names_of}
use Rattle.parse_tables.specs.Rows.{rows}
use Rattle.parse_held.specs.declared.Holding.{Holding}
use Rattle.parse_held.specs.Sections.{beside_held, letters_of, names_held, sections_held}
use Rattle.parse_held.specs.Standing.{Stands, StandsBeside, beside_of, zipped}

concat-map : {A : Type 0} (f : A → List ℕ) (xs : List A) → concat (λ (s : List ℕ). s) (map f xs) ≡ concat f xs
unfolding concat
concat-map f [] = refl
concat-map f (x ∷ xs) = ap (λ (s : List ℕ). f x ++ s) (concat-map f xs)

letters-are : {A : Type 0} (f : A → List ℕ) (xs : List A) (text : List ℕ) (t : Table) (n : ℕ) (w : List ℕ) → names_of text (rows t n w) n ≡ map f xs → letters_of text t n w ≡ concat f xs
unfolding letters_of
letters-are f xs text t n w e = rw e (concat-map f xs)

-- Records of two lists that come from one.
pub zipped-one : {A B C : Type 0} (write : A → B → List ℕ) (f : C → A) (g : C → B) (xs : List C) → zipped write (map f xs) (map g xs) ≡ concat (λ x. write (f x) (g x)) xs
unfolding zipped concat
zipped-one write f g [] = refl
zipped-one write f g (x ∷ xs) = ap (λ (s : List ℕ). write (f x) (g x) ++ s) (zipped-one write f g xs)

made : {f f' o o' e e' a a' s s' n n' : List ℕ} → f ≡ f' → o ≡ o' → e ≡ e' → a ≡ a' → s ≡ s' → n ≡ n'
    → ◌≡◌ {A = Sections} (record { facilities = f; operations = o; expressions = e; actions = a; states = s; names = n }) (record { facilities = f'; operations = o'; expressions = e'; actions = a'; states = s'; names = n' })
made p q r u v w = rw (p, q, r, u, v, w)

made-beside : {f f' o o' e e' a a' s s' : List ℕ} → f ≡ f' → o ≡ o' → e ≡ e' → a ≡ a' → s ≡ s'
    → ◌≡◌ {A = Beside} (record { facilities = f; operations = o; expressions = e; actions = a; states = s }) (record { facilities = f'; operations = o'; expressions = e'; actions = a'; states = s' })
made-beside p q r u v = rw (p, q, r, u, v)

module _ {text w : List ℕ} {c : Holding} {d : Description} (h : Stands text w c d) where
  pub names_stand : names_held text w c ≡ name_bytes d
  unfolding names_held name_bytes
  names_stand =
      rw (
        letters-are (λ f. f.name) d.facilities text T.FacilityNames c.facilities w h.facility_names,
        letters-are (λ o. o.name) d.operations text T.OperationNames c.operations w h.operation_names,
        letters-are (λ s. s.name) d.states text T.Labels c.states w h.state_names,
      )

  pub sections-stand : sections_held text w c ≡ sections_of d
  unfolding sections_held sections_of
  sections-stand = made h.facilities h.operations h.expressions h.actions h.states names_stand

  -- Their image is that of the description.
  pub image-stands : image_of (sections_held text w c) ≡ encode d
  unfolding encode
  image-stands = ap image_of sections-stand

pub beside-stands : {w : List ℕ} {c : Holding} {d : Description} {p : Places} → StandsBeside w c d p → beside_held w c ≡ beside_of d p
unfolding beside_held beside_of
beside-stands h = made-beside h.facilities h.operations h.expressions h.actions h.states
