pub mod KindLaws
pub mod ValueLaws
pub mod LeafLaws
pub mod RoleLaws
pub mod SizeLaws
pub mod LevelLaws
pub mod ColourLaws
