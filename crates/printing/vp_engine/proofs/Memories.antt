-- The memory of a printer is what it was made with.
use Rattle.std.proofs.Common.{◌≡◌, ℕ, List, sym, ◌∙◌, arith}
use Rattle.vp_engine.specs.Memory.{memory_held, memory_of}
use Rattle.vp_engine.specs.Setups.{Setup}
use Rattle.vp_engine.specs.Stands.{Engine, Stands}

pub made_with : (setup : Setup) (p : Engine) (t o : List ℕ) → Stands setup p t o → memory_held p ≡ memory_of setup
made_with setup p t o s = grind arith

pub memory_stays : (setup : Setup) (old new : Engine) (t o u v : List ℕ) → Stands setup old t o → Stands setup new u v → memory_held new ≡ memory_held old
memory_stays setup old new t o u v before after = made_with setup new u v after ∙ sym (made_with setup old t o before)
