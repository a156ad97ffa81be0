-- The first fault and the bytes before it, by one byte more, and by the bytes that follow.
use Rattle.std.proofs.Common.{◌≡◌, ℕ, ◌≤◌, List, [], ◌∷◌, ◌++◌, length, take, drop, reverse, cond, is_some, append_assoc, Option, Some, None, refl, sym, ap, ◌∙◌, arith, length-append}
use Rattle.std.specs.Option.{option_or}
use Rattle.std.proofs.lemmas.List.{reverse-append, reverse-reverse, append-nil, take-append-drop}
use Rattle.std.proofs.lemmas.Grind.{common_steps}
use Rattle.vp_dots.specs.declared.fault.Fault.{Fault}
use Rattle.vp_engine.specs.Bytes.{IsPrefix, without_last}
use Rattle.vp_engine.specs.Paper.{Rules, Reading, Reads, history, printed, newest_refusal, fault_at, first_fault, sound, fault, before_fault, paper, ending, fault_at_end, missing}

pub without_last_more : (t : List ℕ) (b : ℕ) → without_last (t ++ b ∷ []) ≡ t
without_last_more t b = grind (arith, common_steps)

pub none_first : (a b : Option Fault) → option_or a b ≡ None → a ≡ None
none_first a b e = grind arith

pub none_second : (a b : Option Fault) → option_or a b ≡ None → b ≡ None
none_second a b e = grind arith

-- what comes where there is no fault yet
else_same : (fault : Option Fault) (xs ys zs : List ℕ) → (fault ≡ None → ys ≡ zs) → cond (is_some fault) xs ys ≡ cond (is_some fault) xs zs
else_same fault xs ys zs e = grind arith

-- where there is no fault, there was none before
pub sticks : {Item : Type 0} (reading : Reading Item) → Reads reading → (bytes more : List ℕ) → reading.fault_of (bytes ++ more) ≡ None → reading.fault_of bytes ≡ None
sticks reading reads bytes more e = grind arith

module _ {Item : Type 0} (rules : Rules Item) where
  pub paper_is : (t : List ℕ) → paper rules t ≡ printed rules (history rules (before_fault rules t))
  unfolding paper
  paper_is t = refl

  first_more : (front rest : List ℕ) (b : ℕ) →
      first_fault rules front (rest ++ b ∷ []) ≡ option_or (first_fault rules front rest) (fault_at rules ((front ++ rest) ++ b ∷ []))
  unfolding first_fault
  first_more front [] b = (grind arith) ∙ ap (λ x. fault_at rules (x ++ b ∷ [])) (sym (append-nil front))
  first_more front (x ∷ rest) b = grind (arith, append_assoc, first_more (front ++ x ∷ []) rest b)

  pub fault_more : (t : List ℕ) (b : ℕ) → fault rules (t ++ b ∷ []) ≡ option_or (fault rules t) (fault_at rules (t ++ b ∷ []))
  unfolding fault
  fault_more t b = first_more [] t b

  sound_whole : (front rest : List ℕ) → first_fault rules front rest ≡ None → sound rules front rest ≡ front ++ rest
  unfolding first_fault sound
  sound_whole front [] e = sym (append-nil front)
  sound_whole front (b ∷ rest) e = grind (arith, append_assoc, none_second, sound_whole (front ++ b ∷ []) rest (none_second (fault_at rules (front ++ b ∷ [])) (first_fault rules (front ++ b ∷ []) rest) e))

  -- bytes without a fault are all before it
  pub before_whole : (t : List ℕ) → fault rules t ≡ None → before_fault rules t ≡ t
  unfolding before_fault fault
  before_whole t e = sound_whole [] t e

  sound_stop : (front rest : List ℕ) (b : ℕ) (f : Fault) → first_fault rules front (rest ++ b ∷ []) ≡ Some f → sound rules front (rest ++ b ∷ []) ≡ sound rules front rest
  unfolding first_fault sound
  sound_stop front [] b f e = grind arith
  sound_stop front (x ∷ rest) b f e =
      let next = front ++ x ∷ [] in
      else_same (fault_at rules next) front (sound rules next (rest ++ b ∷ [])) (sound rules next rest)
      (λ none. sound_stop next rest b f (ap (λ g. option_or g (first_fault rules next (rest ++ b ∷ []))) (sym none) ∙ e))

  -- the byte that makes the fault is left out
  pub before_stop : (t : List ℕ) (b : ℕ) (f : Fault) → fault rules (t ++ b ∷ []) ≡ Some f → before_fault rules (t ++ b ∷ []) ≡ before_fault rules t
  unfolding before_fault fault
  before_stop t b f e = sound_stop [] t b f e

  first_stays : (front rest more : List ℕ) (f : Fault) → first_fault rules front rest ≡ Some f → first_fault rules front (rest ++ more) ≡ Some f
  unfolding first_fault
  first_stays front [] more f e = cc
  first_stays front (b ∷ rest) more f e = grind (arith, first_stays (front ++ b ∷ []) rest more f)

  sound_stays : (front rest more : List ℕ) (f : Fault) → first_fault rules front rest ≡ Some f → sound rules front (rest ++ more) ≡ sound rules front rest
  unfolding first_fault sound
  sound_stays front [] more f e = cc
  sound_stays front (b ∷ rest) more f e =
      let next = front ++ b ∷ [] in
      else_same (fault_at rules next) front (sound rules next (rest ++ more)) (sound rules next rest)
      (λ none. sound_stays next rest more f (ap (λ g. option_or g (first_fault rules next rest)) (sym none) ∙ e))

  pub fault_stays : (t c : List ℕ) (f : Fault) → fault rules t ≡ Some f → fault rules (t ++ c) ≡ Some f
  unfolding fault
  fault_stays t c f e = first_stays [] t c f e

  before_stays : (t c : List ℕ) (f : Fault) → fault rules t ≡ Some f → before_fault rules (t ++ c) ≡ before_fault rules t
  unfolding fault before_fault
  before_stays t c f e = sound_stays [] t c f e

  pub paper_stays : (t c : List ℕ) (f : Fault) → fault rules t ≡ Some f → paper rules (t ++ c) ≡ paper rules t
  unfolding paper
  paper_stays t c f e = ap (λ x. printed rules (history rules x)) (before_stays t c f e)

  -- a byte that makes a fault prints nothing
  last_prints : (h t : List ℕ) (f : Fault) → reverse t ≡ h → fault rules t ≡ Some f → paper rules t ≡ paper rules (without_last t)
  unfolding paper
  last_prints [] t f e k =
      let t_is : t ≡ [] = sym (reverse-reverse t) ∙ ap reverse e in
      ap (paper rules) t_is ∙ ap (λ x. paper rules (without_last x)) (sym t_is)
  last_prints (b ∷ h) t f e k =
      let t_is : t ≡ reverse h ++ b ∷ [] = sym (reverse-reverse t) ∙ ap reverse e ∙ reverse-append (b ∷ []) h in
      let short : without_last t ≡ reverse h = ap without_last t_is ∙ without_last_more (reverse h) b in
      ap (paper rules) t_is ∙ ap (λ x. printed rules (history rules x)) (before_stop (reverse h) b f (ap (fault rules) (sym t_is) ∙ k)) ∙ ap (paper rules) (sym short)

  pub last_prints_nothing : (t : List ℕ) (f : Fault) → fault rules t ≡ Some f → paper rules t ≡ paper rules (without_last t)
  last_prints_nothing t f k = last_prints (reverse t) t f refl k

  module _ (reads : Reads rules.reading) where
    none_first_at : fault_at rules [] ≡ None
    none_first_at = ap (λ f. option_or f (newest_refusal rules (history rules []))) reads.no_fault ∙ ap (λ x. newest_refusal rules (reverse x)) reads.nothing

    none_last_at : (front rest : List ℕ) → fault_at rules front ≡ None → first_fault rules front rest ≡ None → fault_at rules (front ++ rest) ≡ None
    unfolding first_fault
    none_last_at front [] h e = ap (fault_at rules) (append-nil front) ∙ h
    none_last_at front (b ∷ rest) h e =
        let next = front ++ b ∷ [] in
        ap (fault_at rules) (sym (append_assoc front (b ∷ []) rest))
        ∙ none_last_at next rest (none_first (fault_at rules next) (first_fault rules next rest) e) (none_second (fault_at rules next) (first_fault rules next rest) e)

    none_at : (t : List ℕ) → fault rules t ≡ None → fault_at rules t ≡ None
    unfolding fault
    none_at t e = none_last_at [] t none_first_at e

    -- without a fault all commands are known
    pub all_known : (t : List ℕ) → fault rules t ≡ None → rules.reading.fault_of t ≡ None
    all_known t e = none_first (rules.reading.fault_of t) (newest_refusal rules (history rules t)) (none_at t e)

    -- and the newest item is not refused
    pub newest_accepted : (t : List ℕ) → fault rules t ≡ None → newest_refusal rules (history rules t) ≡ None
    newest_accepted t e = none_second (rules.reading.fault_of t) (newest_refusal rules (history rules t)) (none_at t e)

    -- what is printed stays printed
    printed_grows : (m h : List Item) → IsPrefix (printed rules h) (printed rules (m ++ h))
    printed_grows [] h = ([], append-nil (printed rules h))
    printed_grows (i ∷ m) h =
        let p = printed_grows m h in
        (p.0 ++ rules.prints (m ++ h) i, sym (append_assoc (printed rules h) p.0 (rules.prints (m ++ h) i)) ∙ ap (λ x. x ++ rules.prints (m ++ h) i) p.1)

    history_grows : (t c : List ℕ) → IsPrefix (printed rules (history rules t)) (printed rules (history rules (t ++ c)))
    history_grows t c =
        let p = reads.grows t c in let q = printed_grows (reverse p.0) (history rules t) in
        (q.0, q.1 ∙ ap (printed rules) (sym (ap reverse (sym p.1) ∙ reverse-append (rules.reading.items t) p.0)))

    byte_grows : (t : List ℕ) (b : ℕ) (f : Option Fault) → fault rules (t ++ b ∷ []) ≡ f → IsPrefix (paper rules t) (paper rules (t ++ b ∷ []))
    unfolding paper
    byte_grows t b (Some f) e = ([], append-nil _ ∙ ap (λ x. printed rules (history rules x)) (sym (before_stop t b f e)))
    byte_grows t b None e =
        let whole = before_whole (t ++ b ∷ []) e in
        let front = before_whole t (none_first (fault rules t) (fault_at rules (t ++ b ∷ [])) (sym (fault_more t b) ∙ e)) in
        let p = history_grows t (b ∷ []) in
        (p.0, ap (λ x. printed rules (history rules x) ++ p.0) front ∙ p.1 ∙ ap (λ x. printed rules (history rules x)) (sym whole))

    -- and so is the paper
    pub bytes_grow : (t c : List ℕ) → IsPrefix (paper rules t) (paper rules (t ++ c))
    bytes_grow t [] = ([], append-nil _ ∙ ap (paper rules) (sym (append-nil t)))
    bytes_grow t (b ∷ c) =
        let p = byte_grows t b (fault rules (t ++ b ∷ [])) refl in let q = bytes_grow (t ++ b ∷ []) c in
        (p.0 ++ q.0, sym (append_assoc (paper rules t) p.0 q.0) ∙ ap (λ x. x ++ q.0) p.1 ∙ q.1 ∙ ap (paper rules) (append_assoc t (b ∷ []) c))

  pub fault_in_front : (src : List ℕ) (n : ℕ) (f : Fault) → ((bytes more : List ℕ) → fault rules bytes ≡ Some f → fault rules (bytes ++ more) ≡ Some f) →
      fault rules (take n src) ≡ Some f → fault_at_end rules src ≡ Some f
  fault_in_front src n f stays e =
      ap (λ g. option_or g (ending rules src)) (ap (fault rules) (sym (take-append-drop n src)) ∙ stays (take n src) (drop n src) e)

  -- what is put out of the paper of a front is no longer than the paper
  pub no_longer : (o rest src : List ℕ) (n : ℕ) → ((bytes more : List ℕ) → IsPrefix (paper rules bytes) (paper rules (bytes ++ more))) →
      o ++ rest ≡ paper rules (take n src) → length o ≤ length (paper rules src)
  no_longer o rest src n grows e =
      let g = grows (take n src) (drop n src) in let whole = ap (paper rules) (take-append-drop n src) in
      omega (arith, ap length e, ap length g.1, ap length whole, length-append o rest, length-append (paper rules (take n src)) g.0)

  -- where bytes without a fault end
  pub ends : (t : List ℕ) (missing_now : Option Fault) → fault rules t ≡ None →
      missing_now ≡ missing (rules.reading.is_between t) (rules.is_at_rest (history rules (before_fault rules t))) → fault_at_end rules t ≡ missing_now
  unfolding ending
  ends t missing_now none e = grind (arith, before_whole)
