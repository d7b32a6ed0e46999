mod Refusing
