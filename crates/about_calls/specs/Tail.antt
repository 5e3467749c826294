-- Bytes past an image's total length are not looked at (01, "Image, store, record"): an image that passes means the same, to every call, whatever follows it. Assumes nothing.
use Rattle.std.specs.Prelude.{Bool, List, ◌++◌, drop, take}
use Rattle.std.proofs.Math.Bool.{true, false, cond}
use Rattle.std.proofs.Math.Path.{◌≡◌, refl}
use Rattle.std.proofs.Common.{sym, ap, ◌∙◌, arith, length-take}
use Prim.Native.Nat.{ℕ, zero, suc, ◌≤◌}
use borrow.Author.Tests.{leb-true}
use Rattle.std.proofs.Math.Dec.{leb}
use Rattle.std.proofs.Math.ListN.{length}
use Rattle.std.proofs.lemmas.List.{take-append-le}
use Rattle.language.specs.Calls.{CycleAnswer, CycleCall, Running, after_cycle, cycle, cycle_refusal, cycled, cycles, open', open_refusal, refused_for, run, run_refusal, stimulus_size, stopped_for}
use Rattle.language.specs.Decode.{decode, offset_of}
use Rattle.language.specs.DescribeText.{describe}
use Rattle.language.specs.Encode.{encode, header_size, names_section}
use Rattle.language.specs.Image.{Passes, passes, total_length}
use Rattle.language.specs.Layout.{store_size}
use Rattle.language.specs.Lookups.{facility, facility_name, facility_part, state_name, state_part}
use Rattle.about_calls.specs.PassesExactly.{passed, passing, passing-read}
use Rattle.about_calls.specs.Beyond.{number-front}
use Rattle.language.specs.declared.stops.Stop.{Stop}
use Rattle.std.proofs.Math.Option.{Option}
use Rattle.language.specs.Tests.{both}

module _ (image rest : List ℕ) (passing-so : passes image ≡ true) where
  abbrev all : List ℕ
  all = image ++ rest

  abbrev here : Passes image
  here = passed image passing-so

  written_in : length (encode (describe here.tree).description) ≤ length image
  written_in =
      let n = length (encode (describe here.tree).description) in
      let a = length-take n image in
      let b = ap length here.same in
      omega (arith, a, b)

  abbrev there : Passes all
  there = record { tree = here.tree; legal = here.legal; same = take-append-le _ image rest written_in ∙ here.same }

  pub tail-passes : passes (image ++ rest) ≡ true
  tail-passes = passing all there

  pub tail-described : decode (image ++ rest) ≡ decode image
  tail-described = passing-read all there ∙ sym (passing-read image here)

  pub tail-opens : (store record' : ℕ) → open' (image ++ rest) store record' ≡ open' image store record'
  unfolding open' open_refusal
  tail-opens store record' = rw (tail-passes, tail-described, passing-so) refl

  pub tail-cycles : (store record' stimulus : List ℕ) (scratch : ℕ) → cycle (image ++ rest) store record' stimulus scratch ≡ cycle image store record' stimulus scratch
  unfolding cycle cycle_refusal
  tail-cycles store record' stimulus scratch = rw (tail-passes, tail-described, passing-so) refl

  -- ---- Lookups. A name stands where the header says, which is before the image's end.

  header-there : header_size ≤ length image
  unfolding passes
  header-there = go (leb header_size (length image)) refl (leb (total_length image) (length image)) _ passing-so
    where
      go : (a : Bool) → leb header_size (length image) ≡ a → (b x : Bool) → cond (both a b) x false ≡ true → header_size ≤ length image
      go true q b x e = leb-true header_size (length image) q
      go false q b x e = absurd (let z : ◌≡◌ {A = ℕ} 0 1 = cc in omega arith)

  names_at : offset_of names_section all ≡ offset_of names_section image
  names_at = number-front 4 48 image rest (omega (arith, header-there))

  pub tail-facility : (n : ℕ) → facility (image ++ rest) n ≡ facility image n
  unfolding facility
  tail-facility n = rw (tail-passes, tail-described, passing-so) refl

  pub tail-facility-name : (n : ℕ) → facility_name (image ++ rest) n ≡ facility_name image n
  unfolding facility_name facility_part
  tail-facility-name n = rw (tail-passes, tail-described, passing-so, names_at) refl

  pub tail-state-name : (n : ℕ) → state_name (image ++ rest) n ≡ state_name image n
  unfolding state_name state_part
  tail-state-name n = rw (tail-passes, tail-described, passing-so, names_at) refl

  -- ---- A run.

  after_tail : (scratch size stimulus : ℕ) (c : CycleCall) (r : Running) (on on' : Running → Running × Option Stop) → ((q : Running) → on q ≡ on' q)
      → after_cycle all scratch size stimulus c r on ≡ after_cycle image scratch size stimulus c r on'
  after_tail scratch size stimulus c r on on' h = go c.answer refl
    where
      go : (a : CycleAnswer) → c.answer ≡ a → after_cycle all scratch size stimulus c r on ≡ after_cycle image scratch size stimulus c r on'
      go (cycled n) e = rw e (h _)
      go (stopped_for n) e = rw e refl
      go (refused_for n) e = rw e refl

  cycles-tail : (scratch size stimulus k : ℕ) (stimuli : List ℕ) (r : Running) → cycles all scratch size stimulus k stimuli r ≡ cycles image scratch size stimulus k stimuli r
  unfolding cycles
  cycles-tail scratch size stimulus zero stimuli r = refl
  cycles-tail scratch size stimulus (suc k) stimuli r =
      rw (tail-cycles r.store r.record' (take stimulus stimuli) scratch)
      (after_tail scratch size stimulus (cycle image r.store r.record' (take stimulus stimuli) scratch) r _ _ (cycles-tail scratch size stimulus k (drop stimulus stimuli)))

  pub tail-runs : (store record' stimuli : List ℕ) (count scratch trace : ℕ) → run (image ++ rest) store record' stimuli count scratch trace ≡ run image store record' stimuli count scratch trace
  unfolding run run_refusal
  tail-runs store record' stimuli count scratch trace = rw (tail-passes, tail-described, passing-so, cycles-tail scratch (store_size (decode image)) (stimulus_size (decode image)) count stimuli) refl
