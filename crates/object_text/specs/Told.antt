-- What is told of an object.
use Rattle.typed_object.specs.Place.{seen}
use Rattle.object_text.specs.Object as specs
use Rattle.object_text.specs.declared.object.Object.{Object}

-- its address and type, and its size
abbrev pub told : Object → specs.Object
told object = (seen object.view, object.size)
