-- The parts of a symbol make the whole.
use Rattle.std.proofs.Common.{arith}
use Rattle.std.proofs.Common.{◌≡◌, ℕ, ◌<◌, List, Some, ap, ◌∙◌}
use Rattle.std.specs.Prelude.{unwrap_or, Option, None}
use Rattle.vp_qr.specs.declared.level.Level.{Level}
use Rattle.vp_qr.specs.declared.segment.Mode.{Mode}
use Rattle.vp_qr.specs.declared.segment.Kind.{Kind}
use Rattle.vp_qr.specs.Segments.{kind_of, message}
use Rattle.vp_qr.specs.Strings.{padded}
use Rattle.vp_qr.specs.Versions.{smallest, Holds}
use Rattle.vp_qr.proofs.VersionsInOrder.{smallest_holds}
use Rattle.vp_qr.specs.Blocks.{blocks_of, capacity, interleaved}
use Rattle.vp_qr.specs.Places.{size}
use Rattle.vp_qr.specs.Walk.{dark}
use Rattle.vp_qr.specs.Encoding.{refusal, version_of, data_words, codewords_of, mask_of, best_mask, masked, symbol_module, QrSymbol, Encodes}

module _ (level : Level) (mode : Mode) (src : List ℕ) (kind : Kind) (v : ℕ) (words codewords : List ℕ)
    (kind_is : kind ≡ kind_of mode src) (version_is : Some v ≡ smallest level kind src)
    (words_are : words ≡ padded (capacity level v) (message kind v src)) (codewords_are : codewords ≡ interleaved (blocks_of level v) words) where
  same_version : v ≡ version_of level mode src
  same_version = ap (λ (o : Option ℕ). unwrap_or o 0) (version_is ∙ ap (λ k. smallest level k src) kind_is)

  same_words : words ≡ data_words level mode src
  unfolding data_words
  same_words = grind arith

  same_codewords : codewords ≡ codewords_of level mode src
  unfolding codewords_of
  same_codewords = codewords_are ∙ ap (λ n. interleaved (blocks_of level n) words) same_version ∙ ap (interleaved (blocks_of level (version_of level mode src))) same_words

  same_module : (m : ℕ) → m ≡ mask_of level mode src → (i j : ℕ) → masked level v codewords m i j ≡ symbol_module level mode src i j
  unfolding symbol_module
  same_module m em i j = grind (arith, same_codewords)

  -- with the mask that is chosen for these bytes
  pub encodes : (m : ℕ) → m ≡ mask_of level mode src → (qr : QrSymbol) → qr.version ≡ v → qr.codewords ≡ codewords → qr.mask ≡ m
      → ((i j : ℕ) → i < size v → j < size v → dark qr.rows i j ≡ masked level v codewords m i j)
      → Encodes level mode src qr
  encodes m em qr ev ec same modules = grind (arith, same_codewords, same_module)

  -- which is the one that is chosen for their codewords
  pub same_mask : best_mask level v codewords ≡ mask_of level mode src
  same_mask = ap (λ n. best_mask level n codewords) same_version ∙ ap (best_mask level (version_of level mode src)) same_codewords

-- bytes that aren't refused have a version
pub accepted_version : (level : Level) (mode : Mode) (src : List ℕ) → refusal level mode src ≡ None → Some (version_of level mode src) ≡ smallest level (kind_of mode src) src
accepted_version level mode src e = grind arith

-- and it holds them
pub version_holds : (level : Level) (mode : Mode) (src : List ℕ) → refusal level mode src ≡ None → Holds level (kind_of mode src) src (version_of level mode src)
version_holds level mode src e = smallest_holds level (kind_of mode src) src (version_of level mode src) (accepted_version level mode src e)
