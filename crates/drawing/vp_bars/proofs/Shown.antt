-- Texts character by character.
use Rattle.std.proofs.Common.{◌≡◌, ℕ, ◌+◌, ◌<◌, true, ltb, List, ◌++◌, length, get_or, drop, sym, ap, ◌∙◌, append_assoc, arith}
use Rattle.std.proofs.lemmas.Bool.{ltb-true}
use Rattle.std.proofs.lemmas.List.{drop_more}
use Rattle.vp_bars.specs.declared.code_128.CodeSet.{CodeSet}
use Rattle.vp_bars.specs.Code93.{is_ascii, ascii_signs, spelled, text_behind, shift_behind, ascii_from}
use Rattle.vp_bars.specs.Interleaved.{pair_shown, pairs_shown}
use Rattle.vp_bars.specs.Upc.{digit_shown, digits_shown}
use Rattle.vp_bars.specs.Signs.{sign_of, signs_of}
use Rattle.vp_bars.proofs.Lists.{list_all_get}
use Rattle.vp_bars.specs.Texts.{character_of, characters, text_in_set, set_behind, next_set, shown_from}

-- one more value
pub pairs_more : (vs text : List ℕ) (i : ℕ) → i < length vs → pairs_shown vs ≡ text ++ pairs_shown (drop i vs)
    → pairs_shown vs ≡ (text ++ pair_shown (get_or vs i 0)) ++ pairs_shown (drop (i + 1) vs)
pairs_more vs text i h e = e ∙ ap (λ us. text ++ pairs_shown us) (drop_more vs i 0 h) ∙ sym (append_assoc text (pair_shown (get_or vs i 0)) (pairs_shown (drop (i + 1) vs)))

pub digits_more : (vs text : List ℕ) (i : ℕ) → i < length vs → digits_shown vs ≡ text ++ digits_shown (drop i vs)
    → digits_shown vs ≡ (text ++ digit_shown (get_or vs i 0)) ++ digits_shown (drop (i + 1) vs)
digits_more vs text i h e = e ∙ ap (λ us. text ++ digits_shown us) (drop_more vs i 0 h) ∙ sym (append_assoc text (digit_shown (get_or vs i 0)) (digits_shown (drop (i + 1) vs)))

pub signs_more : (alphabet vs text : List ℕ) (i : ℕ) → i < length vs → signs_of alphabet vs ≡ text ++ signs_of alphabet (drop i vs)
    → signs_of alphabet vs ≡ (text ++ sign_of alphabet (get_or vs i 0)) ++ signs_of alphabet (drop (i + 1) vs)
signs_more alphabet vs text i h e = e ∙ ap (λ us. text ++ signs_of alphabet us) (drop_more vs i 0 h) ∙ sym (append_assoc text (sign_of alphabet (get_or vs i 0)) (signs_of alphabet (drop (i + 1) vs)))

pub characters_more : (vs text : List ℕ) (i : ℕ) → i < length vs → characters vs ≡ text ++ characters (drop i vs)
    → characters vs ≡ (text ++ character_of (get_or vs i 0)) ++ characters (drop (i + 1) vs)
characters_more vs text i h e = e ∙ ap (λ us. text ++ characters us) (drop_more vs i 0 h) ∙ sym (append_assoc text (character_of (get_or vs i 0)) (characters (drop (i + 1) vs)))

pub shown_more : (start set now : CodeSet) (vs text : List ℕ) (i : ℕ) → i < length vs → shown_from start start vs ≡ text ++ shown_from set now (drop i vs)
    → shown_from start start vs ≡ (text ++ text_in_set now (get_or vs i 0)) ++ shown_from (set_behind set (get_or vs i 0)) (next_set set (get_or vs i 0)) (drop (i + 1) vs)
shown_more start set now vs text i h e = grind (arith, drop_more, append_assoc)

-- each byte of ASCII is one
pub ascii_at : (src : List ℕ) (i : ℕ) → i < length src → is_ascii src ≡ true → get_or src i 0 < 128
ascii_at src i h e = ltb-true (get_or src i 0) 128 (list_all_get (λ c. ltb c 128) src i 0 h e)

-- one more of them
pub spelled_more : (src signs : List ℕ) (i : ℕ) → i < length src → spelled src ≡ signs ++ spelled (drop i src)
    → spelled src ≡ (signs ++ ascii_signs (get_or src i 0)) ++ spelled (drop (i + 1) src)
spelled_more src signs i h e = e ∙ ap (λ us. signs ++ spelled us) (drop_more src i 0 h) ∙ sym (append_assoc signs (ascii_signs (get_or src i 0)) (spelled (drop (i + 1) src)))

pub ascii_more : (vs text : List ℕ) (shift i : ℕ) → i < length vs → ascii_from 0 vs ≡ text ++ ascii_from shift (drop i vs)
    → ascii_from 0 vs ≡ (text ++ text_behind shift (get_or vs i 0)) ++ ascii_from (shift_behind (get_or vs i 0)) (drop (i + 1) vs)
ascii_more vs text shift i h e = e ∙ ap (λ us. text ++ ascii_from shift us) (drop_more vs i 0 h)
    ∙ sym (append_assoc text (text_behind shift (get_or vs i 0)) (ascii_from (shift_behind (get_or vs i 0)) (drop (i + 1) vs)))
