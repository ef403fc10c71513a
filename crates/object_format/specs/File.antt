-- The file of an object: its parts, between the layers that all files share.
use Rattle.std.specs.Prelude.{◌≡◌, ℕ, List, [], ◌∷◌, Result, Ok, Err}
use Rattle.sha2.specs.Sha256.{sha256}
use Rattle.object_format.specs.declared.fault.ObjectFault.{ObjectFault}
use Rattle.object_format.specs.declared.fault.ObjectFault.TheVariants as object_fault
use Rattle.object_format.specs.declared.object.Object.{Object}
use Rattle.object_format.specs.declared.parts.Parts.{Parts}
use Rattle.object_format.specs.Layout.{parts}
use Rattle.spelling.specs.declared.fault.LayerFault.{LayerFault}
use Rattle.spelling.specs.declared.fault.LayerFault.TheVariants.{Short, Magic, Version, Long, Damaged}
use Rattle.spelling.specs.Layers.{File, file, unsealed, single}

-- GCOB, with which the file of an object begins
abbrev pub magic : List ℕ
magic = 0x47 ∷ 0x43 ∷ 0x4f ∷ 0x42 ∷ []

-- an object without its closing digest
abbrev pub parts_of : Object → Parts
parts_of o = record {
  entry = o.entry;
  text = o.text;
  init_at = o.init_at;
  init = o.init;
  files = o.files;
  obligations = o.obligations;
  rows = o.rows;
  roles = o.roles;
}

-- parts and a closing digest
abbrev pub with_digest : Parts → List ℕ → Object
with_digest p closing = record {
  entry = p.entry;
  text = p.text;
  init_at = p.init_at;
  init = p.init;
  files = p.files;
  obligations = p.obligations;
  rows = p.rows;
  roles = p.roles;
  closing = closing;
}

-- ---- how an object is spelled

-- the one file of an object's parts: version 1
abbrev pub object_bytes : Object → List ℕ
object_bytes o = file magic 1 parts (parts_of o)

-- the digest at that file's end
abbrev pub digest_of : Object → List ℕ
digest_of o = sha256 (unsealed magic 1 parts (parts_of o))

-- the object whose closing digest is that of its file
abbrev pub closed_object : Object → Object
closed_object o = with_digest (parts_of o) (digest_of o)

-- each of its numbers, counts and lengths fits the bytes that stand for it
abbrev pub HasSpelling : Object → Type 0
HasSpelling o = parts.Fits (parts_of o)

-- an object that its file stands for: it has one, and its digest is that of the file
pub record IsClosed (o : Object) : Type 0 where
  pub spelled : HasSpelling o
  pub closing : o.closing ≡ digest_of o

-- ---- how an object is read, before its parts are checked

-- a fault of the layers, as an object's
abbrev pub fault_of : LayerFault → ObjectFault
fault_of Short = object_fault.Short
fault_of Magic = object_fault.Magic
fault_of Version = object_fault.Version
fault_of Long = object_fault.Long
fault_of Damaged = object_fault.Damaged

abbrev pub as_object : Result (File Parts) LayerFault → Result Object ObjectFault
as_object (Ok f) = Ok (with_digest f.content f.closing)
as_object (Err fault) = Err (fault_of fault)

-- the object that the bytes are the file of, or the first layer at which they are none
unfoldable pub structured : List ℕ → Result Object ObjectFault
structured bytes = as_object (single magic 1 parts bytes)
